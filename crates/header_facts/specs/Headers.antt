-- What the header of a file number in use says, whoever may open the file: its place in a chain, its name, its retrieval pointers.
use Rattle.answer.specs.declared.types.Run.{Run}
use Rattle.std.specs.Prelude.{List, ℕ, ltb}
use Rattle.answer.specs.declared.refusal.Refusal.TheVariants as refusal
use Rattle.answer.specs.Outcome.{unless, ◌then◌, Outcome, Answer}
use Rattle.answer.specs.Answers.{answer_of, run_answer}
use Rattle.header.specs.Fields.{h_fseq, segment, m_efnu, m_efsq}
use Rattle.header.specs.Ident.{ident_name}
use Rattle.pointers.specs.Pointers.{pointer_lbn, pointer_count, pointers, pointer_at}
use Rattle.volume.specs.Volume.{header}
use Rattle.volume.specs.Opening.{open_volume}
use Rattle.chains.specs.Finding.{find_number}
use Rattle.header_facts.specs.declared.types.Header.{Header}

-- Every call on a volume opens it first; 01, Answer numbers: 1 to 5, then 7 and 8.
unfoldable pub find_header : List ℕ → ℕ → Outcome
find_header image n = open_volume image then find_number image n

-- H.FSEQ; segment number, M.EFNU and M.EFSQ; how many retrieval pointers are in use; the name in the ident area.
unfoldable pub facts_of : List ℕ → Header
facts_of h = record {
  sequence = h_fseq h;
  segment = segment h;
  next = m_efnu h;
  next_sequence = m_efsq h;
  pointers = pointers h;
  name = ident_name h;
}

-- What the header in the slot of number n says.
unfoldable pub header_answer : List ℕ → ℕ → Answer Header
header_answer image n = answer_of (find_header image n) (facts_of (header image n))

-- ABSENT past the last retrieval pointer in use.
unfoldable pub find_pointer : List ℕ → ℕ → ℕ → Outcome
find_pointer image n p = find_header image n then unless (ltb p (pointers (header image n))) refusal.Absent

-- The first LBN that retrieval pointer p of the header in the slot of number n covers, and how many it covers. 01, The header: "count c covers c+1
-- blocks".
unfoldable pub pointer_answer : List ℕ → ℕ → ℕ → Answer Run
pointer_answer image n p =
    let h = header image n in
    run_answer (find_pointer image n p) (pointer_lbn h (pointer_at h p)) (pointer_count h (pointer_at h p))
