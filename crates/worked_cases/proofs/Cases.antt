-- The worked cases, each computed. That the volume is accepted is computed once for both cases of extend.
use Rattle.std.specs.Prelude.{Ok, Err}
use mathlib.Core.Path.{◌≡◌, refl, ◌∙◌}
use Prim.Native.Nat.{ℕ}
use Rattle.lists.specs.First.{first, below}
use Rattle.image.specs.Words.{word_at}
use Rattle.image.specs.Blocks.{region, block}
use Rattle.image.specs.Bits.{bit_of, bit_at, is_set}
use Rattle.image.specs.Sums.{word_sum, checksum}
use Rattle.image.specs.Stores.{zeros}
use Rattle.lists.specs.Lists.{numbers_from, every, last_of}
use Rattle.answer.specs.declared.refusal.Refusal.TheVariants as refusal
use Rattle.answer.specs.Outcome.{unless, ◌then◌}
use Rattle.answer.specs.Answers.{answer_of}
use Rattle.answer.proofs.OutcomeLaws.{then-passed}
use Rattle.radix50.specs.Table.{char_of, has_char, code_of}
use Rattle.radix50.specs.Words.{word_of, characters_of}
use Rattle.parse.specs.Parse.{code_at, part_word}
use Rattle.header.specs.Fields.{h_idof, h_mpof, h_fnum, h_fseq, h_flev, user_flags, system_flags, map_area, segment, m_ervn, m_efnu, m_efsq, m_ctsz, m_lbsz, m_use, m_max}
use Rattle.pointers.specs.Pointers.{pointer_lbn, pointer_count, run, runs, pointers_at, pointers, blocks_of}
use Rattle.whole.specs.Whole.{ends_inside, link_tests, map_tests, tests, first_unmet, fault}
use Rattle.home.specs.Home.{h_ibsz, h_iblb, h_fmax, h_sbcl, h_vlev, indf, indf_at, is_home, blocks, position, positions, home_at, home_index, home}
use Rattle.volume.specs.Volume.{ibsz, iblb, fmax, index_header, follows, leads_on, places_from, places, index, index_ends, slot, slots, has_slot, header, fault_of, index_map, in_use, is_number, map_blocks, base, storage_map}
use Rattle.pointers.specs.Pointers.{flat}
use Rattle.volume.specs.Opening.{sized, homed, geometry, heads, alone, index_lbn, index_at, index_mapped, indexed, storage_mapped, stored, open_volume}
use Rattle.volume.specs.Volume.{map_blocks}
use Rattle.chains.specs.Chains.{links_on, good_link, chain, chain_of, good_link_of, good_chain, file_blocks, last_number}
use Rattle.chains.specs.Finding.{find_number}
use Rattle.open_file.specs.Opening.{find, access, chained, anyone, open_on, open_by}
use Rattle.header.specs.Flags.{has_flag, locked, is_fixed}
use Rattle.mapping.specs.Mapping.{has_vbn, lbn_of, find_vbn, map_answer}
use Rattle.verdict.specs.Verdict.{verdict}
use Rattle.lowest_run.specs.Runs.{is_free, is_run, starts, lowest_start}
use Rattle.update.specs.Extend.{is_known_number, is_count, has_room, run_start, has_run, extend_tests, extend_outcome, extend_answer}
use Rattle.volume_v.specs.VolumeV.{words, join, home_block, index_map_block, header_block, end_of_file, storage_map_block, directory_block, volume_v}
use Rattle.worked_cases.specs.Cases.{Cases, reads, dat, two_words, file6}
use Rattle.volume_v.proofs.Judged.{computed}

outcome : (c : ℕ) → extend_outcome volume_v file6 c 100 16 ≡ extend_tests volume_v file6 c
unfolding extend_outcome
outcome c = then-passed (verdict volume_v 100 16) (extend_tests volume_v file6 c) computed

passes-4 : extend_tests volume_v file6 4 ≡ Ok tt
unfolding first checksum word_sum word_at zeros below region block bit_of bit_at numbers_from unless ◌then◌ h_idof h_mpof h_fnum h_fseq h_flev user_flags system_flags map_area segment m_ervn m_efnu m_efsq m_ctsz m_lbsz m_use m_max pointer_lbn pointer_count run runs pointers_at pointers blocks_of ends_inside link_tests map_tests tests first_unmet fault h_ibsz h_iblb h_fmax h_sbcl h_vlev indf indf_at is_home blocks position positions home_at home_index home ibsz iblb fmax index_header follows leads_on places_from places flat index index_ends slot slots has_slot header fault_of index_map in_use is_number map_blocks sized homed geometry heads alone index_lbn index_at index_mapped indexed storage_mapped stored open_volume links_on good_link chain chain_of every good_link_of good_chain file_blocks find_number find has_flag locked access chained anyone open_on open_by words join home_block index_map_block header_block end_of_file storage_map_block directory_block volume_v file6 base storage_map is_set is_free is_run starts lowest_start is_known_number is_fixed is_count has_room last_of last_number run_start has_run extend_tests
passes-4 = refl

starts-4 : run_start volume_v 4 ≡ 26
unfolding first checksum word_sum word_at zeros below region block bit_of bit_at numbers_from unless ◌then◌ h_idof h_mpof h_fnum h_fseq h_flev user_flags system_flags map_area segment m_ervn m_efnu m_efsq m_ctsz m_lbsz m_use m_max pointer_lbn pointer_count run runs pointers_at pointers blocks_of ends_inside link_tests map_tests tests first_unmet fault h_ibsz h_iblb h_fmax h_sbcl h_vlev indf indf_at is_home blocks position positions home_at home_index home ibsz iblb fmax index_header follows leads_on places_from places flat index index_ends slot slots has_slot header fault_of index_map in_use is_number map_blocks sized homed geometry heads alone index_lbn index_at index_mapped indexed storage_mapped stored open_volume links_on good_link chain chain_of every good_link_of good_chain file_blocks find_number find has_flag locked access chained anyone open_on open_by words join home_block index_map_block header_block end_of_file storage_map_block directory_block volume_v file6 base storage_map is_set is_free is_run starts lowest_start is_known_number is_fixed is_count has_room last_of last_number run_start has_run extend_tests
starts-4 = refl

refuses-68 : extend_tests volume_v file6 68 ≡ Err refusal.Run
unfolding first checksum word_sum word_at zeros below region block bit_of bit_at numbers_from unless ◌then◌ h_idof h_mpof h_fnum h_fseq h_flev user_flags system_flags map_area segment m_ervn m_efnu m_efsq m_ctsz m_lbsz m_use m_max pointer_lbn pointer_count run runs pointers_at pointers blocks_of ends_inside link_tests map_tests tests first_unmet fault h_ibsz h_iblb h_fmax h_sbcl h_vlev indf indf_at is_home blocks position positions home_at home_index home ibsz iblb fmax index_header follows leads_on places_from places flat index index_ends slot slots has_slot header fault_of index_map in_use is_number map_blocks sized homed geometry heads alone index_lbn index_at index_mapped indexed storage_mapped stored open_volume links_on good_link chain chain_of every good_link_of good_chain file_blocks find_number find has_flag locked access chained anyone open_on open_by words join home_block index_map_block header_block end_of_file storage_map_block directory_block volume_v file6 base storage_map is_set is_free is_run starts lowest_start is_known_number is_fixed is_count has_room last_of last_number run_start has_run extend_tests
refuses-68 = refl

extend-4-is : extend_answer volume_v file6 4 100 16 ≡ Ok (record { 0 = 26 })
unfolding extend_answer answer_of
extend-4-is = rw (outcome 4 ∙ passes-4, starts-4)

extend-68-is : extend_answer volume_v file6 68 100 16 ≡ Err refusal.Run
unfolding extend_answer answer_of
extend-68-is = rw (outcome 68 ∙ refuses-68)

pub cases : Cases
unfolding reads dat two_words part_word code_at code_of first has_char char_of word_of characters_of checksum word_sum word_at zeros below region block bit_of bit_at numbers_from unless ◌then◌ h_idof h_mpof h_fnum h_fseq h_flev user_flags system_flags map_area segment m_ervn m_efnu m_efsq m_ctsz m_lbsz m_use m_max pointer_lbn pointer_count run runs pointers_at pointers blocks_of ends_inside link_tests map_tests tests first_unmet fault h_ibsz h_iblb h_fmax h_sbcl h_vlev indf indf_at is_home blocks position positions home_at home_index home ibsz iblb fmax index_header follows leads_on places_from places flat index index_ends slot slots has_slot header fault_of index_map in_use is_number map_blocks sized homed geometry heads alone index_lbn index_at index_mapped indexed storage_mapped stored open_volume links_on good_link chain chain_of every good_link_of good_chain file_blocks find_number find has_flag locked access chained anyone open_on open_by has_vbn lbn_of find_vbn answer_of map_answer words join home_block index_map_block header_block end_of_file storage_map_block directory_block volume_v file6
cases = record { reads-is = refl; dat-is = refl; nines = refl; above = refl; sum = refl; fmax-4096 = refl; fmax-4097 = refl; vbn-2 = refl; vbn-3 = refl; vbn-4 = refl; extend-4 = extend-4-is; extend-68 = extend-68-is }
