-- What an opened file says of itself: owner, protection, flags, and the attributes that FCS keeps (000, 6.1).
use Rattle.answer.specs.Outcome.{Answer}
use Rattle.answer.specs.Answers.{answer_of}
use Rattle.std.specs.Prelude.{List, ℕ, length}
use Rattle.answer.specs.declared.types.FileId.{FileId}
use Rattle.header.specs.Attributes.{f_hibk, f_rtyp_ratt, end_of, f_rsiz, f_efbk, f_ffby}
use Rattle.header.specs.Fields.{h_fpro, h_fown, h_fcha}
use Rattle.volume.specs.Volume.{header}
use Rattle.chains.specs.Chains.{file_blocks}
use Rattle.open_file.specs.Opening.{open_file}
use Rattle.file_facts.specs.declared.types.Attributes.{Attributes}

-- What the first header of a file of so many blocks says.
unfoldable pub attributes_of : List ℕ → ℕ → Attributes
attributes_of h count = record {
  blocks = count;
  end = end_of h count;
  owner = h_fown h;
  protection = h_fpro h;
  flags = h_fcha h;
  record_type = f_rtyp_ratt h;
  record_size = f_rsiz h;
  highest = record { 0 = f_hibk h };
  end_block = record { 0 = f_efbk h };
  first_free = f_ffby h;
}

-- Every call on a file opens it first; 01, Answer numbers: 1 to 12.
unfoldable pub attributes_answer : List ℕ → FileId → Answer Attributes
attributes_answer image id = answer_of (open_file image id) (attributes_of (header image id.number) (length (file_blocks image id.number)))
