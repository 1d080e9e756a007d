-- The verdict on Volume V, computed; N and H.FMAX.
use Rattle.std.specs.Prelude.{Ok}
use mathlib.Core.Path.{◌≡◌, refl}
use Rattle.lists.specs.First.{first, below}
use Rattle.image.specs.Words.{word_at}
use Rattle.image.specs.Blocks.{region, block}
use Rattle.image.specs.Bits.{bit_of, bit_at}
use Rattle.image.specs.Sums.{word_sum, checksum}
use Rattle.image.specs.Stores.{zeros}
use Rattle.lists.specs.Lists.{numbers_from, every}
use Rattle.answer.specs.Outcome.{unless, ◌then◌}
use Rattle.header.specs.Fields.{h_idof, h_mpof, h_fnum, h_fseq, h_flev, user_flags, system_flags, map_area, segment, m_ervn, m_efnu, m_efsq, m_ctsz, m_lbsz, m_use, m_max}
use Rattle.pointers.specs.Pointers.{pointer_lbn, pointer_count, run, runs, pointers_at, pointers, blocks_of}
use Rattle.whole.specs.Whole.{ends_inside, link_tests, map_tests, tests, first_unmet, fault}
use Rattle.home.specs.Home.{h_ibsz, h_iblb, h_fmax, h_sbcl, h_vlev, indf, indf_at, is_home, blocks, position, positions, home_at, home_index, home}
use Rattle.volume.specs.Volume.{ibsz, iblb, fmax, index_header, follows, leads_on, places_from, places, index, index_ends, slot, slots, has_slot, header, fault_of, index_map, in_use, is_number, map_blocks, base, storage_map, map_bits}
use Rattle.pointers.specs.Pointers.{flat}
use Rattle.volume.specs.Opening.{sized, homed, geometry, heads, alone, index_lbn, index_at, index_mapped, indexed, storage_mapped, stored, open_volume}
use Rattle.volume.specs.Volume.{map_blocks}
use Rattle.chains.specs.Chains.{links_on, good_link, chain, chain_of, good_link_of, good_chain, file_blocks}
use Rattle.volume_v.specs.VolumeV.{words, join, home_block, index_map_block, header_block, end_of_file, storage_map_block, directory_block, volume_v}
use Rattle.lists.specs.Counts.{count}
use Rattle.slots.specs.Slots.{gathered}
use Rattle.files.specs.Files.{is_known, bad_file, files_place, files}
use Rattle.links.specs.Links.{link_of, linked, links_wanted, bad_links, links_place, links}
use Rattle.covers.specs.Covered.{covered, covered_twice, twice_place, twice, wrong_bit, map_place, bad_map}
use Rattle.bad_home.specs.Homes.{left_out, bad_home_index, bad_home}
use Rattle.verdict.specs.Verdict.{roomy, ready, verdict}

pub size : blocks volume_v ≡ 100
unfolding first below word_at region block bit_of bit_at word_sum checksum zeros numbers_from unless ◌then◌ h_idof h_mpof h_fnum h_fseq h_flev user_flags system_flags map_area segment m_ervn m_efnu m_efsq m_ctsz m_lbsz m_use m_max pointer_lbn pointer_count run runs pointers_at pointers blocks_of ends_inside link_tests map_tests tests first_unmet fault h_ibsz h_iblb h_fmax h_sbcl h_vlev indf indf_at is_home blocks position positions home_at home_index home ibsz iblb fmax index_header follows leads_on places_from places flat index index_ends slot slots has_slot header fault_of index_map in_use is_number map_blocks base storage_map sized homed geometry heads alone index_lbn index_at index_mapped indexed storage_mapped stored open_volume links_on good_link chain chain_of every good_link_of good_chain file_blocks words join home_block index_map_block header_block end_of_file storage_map_block directory_block volume_v count gathered is_known bad_file files_place files link_of linked links_wanted bad_links links_place links covered covered_twice twice_place twice map_bits wrong_bit map_place bad_map left_out bad_home_index bad_home roomy ready verdict
size = refl

pub numbers : fmax volume_v ≡ 16
unfolding first below word_at region block bit_of bit_at word_sum checksum zeros numbers_from unless ◌then◌ h_idof h_mpof h_fnum h_fseq h_flev user_flags system_flags map_area segment m_ervn m_efnu m_efsq m_ctsz m_lbsz m_use m_max pointer_lbn pointer_count run runs pointers_at pointers blocks_of ends_inside link_tests map_tests tests first_unmet fault h_ibsz h_iblb h_fmax h_sbcl h_vlev indf indf_at is_home blocks position positions home_at home_index home ibsz iblb fmax index_header follows leads_on places_from places flat index index_ends slot slots has_slot header fault_of index_map in_use is_number map_blocks base storage_map sized homed geometry heads alone index_lbn index_at index_mapped indexed storage_mapped stored open_volume links_on good_link chain chain_of every good_link_of good_chain file_blocks words join home_block index_map_block header_block end_of_file storage_map_block directory_block volume_v count gathered is_known bad_file files_place files link_of linked links_wanted bad_links links_place links covered covered_twice twice_place twice map_bits wrong_bit map_place bad_map left_out bad_home_index bad_home roomy ready verdict
numbers = refl

pub computed : verdict volume_v 100 16 ≡ Ok tt
unfolding first below word_at region block bit_of bit_at word_sum checksum zeros numbers_from unless ◌then◌ h_idof h_mpof h_fnum h_fseq h_flev user_flags system_flags map_area segment m_ervn m_efnu m_efsq m_ctsz m_lbsz m_use m_max pointer_lbn pointer_count run runs pointers_at pointers blocks_of ends_inside link_tests map_tests tests first_unmet fault h_ibsz h_iblb h_fmax h_sbcl h_vlev indf indf_at is_home blocks position positions home_at home_index home ibsz iblb fmax index_header follows leads_on places_from places flat index index_ends slot slots has_slot header fault_of index_map in_use is_number map_blocks base storage_map sized homed geometry heads alone index_lbn index_at index_mapped indexed storage_mapped stored open_volume links_on good_link chain chain_of every good_link_of good_chain file_blocks words join home_block index_map_block header_block end_of_file storage_map_block directory_block volume_v count gathered is_known bad_file files_place files link_of linked links_wanted bad_links links_place links covered covered_twice twice_place twice map_bits wrong_bit map_place bad_map left_out bad_home_index bad_home roomy ready verdict
computed = refl
