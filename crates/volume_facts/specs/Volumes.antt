-- What a volume says of itself: where its parts lie, and the label in its home block.
use Rattle.answer.specs.Outcome.{Answer}
use Rattle.answer.specs.Answers.{answer_of}
use Rattle.std.specs.Prelude.{List, ℕ, ◌+◌, ◌*◌, length}
use Rattle.image.specs.Words.{word_at}
use Rattle.image.specs.Blocks.{block}
use Rattle.home.specs.Home.{h_vlev, blocks, home}
use Rattle.volume.specs.Volume.{ibsz, iblb, fmax, places, slots, base, map_blocks}
use Rattle.volume.specs.Opening.{open_volume}
use Rattle.volume_facts.specs.declared.types.Geometry.{Geometry}
use Rattle.volume_facts.specs.declared.types.Label.{Label}

-- Where the parts of a volume lie: N; the home's LBN; H.IBSZ, H.IBLB, H.FMAX; how many numbers have a slot; the LBN of the storage map's bits, and in how
-- many blocks they lie; H.VLEV. 01, The volume, has the sentence for each. And how many headers the index file has: 02, 9/14, "all headers in the chain
-- of file 1".
unfoldable pub geometry_of : List ℕ → Geometry
geometry_of image = record {
  blocks = blocks image;
  home = record { 0 = home image };
  ibsz = ibsz image;
  iblb = record { 0 = iblb image };
  fmax = fmax image;
  slots = slots image;
  map = record { 0 = base image };
  map_blocks = map_blocks (blocks image);
  vlev = h_vlev (block image (home image));
  index_headers = length (places image);
}

-- Every call on a volume opens it first; 01, Answer numbers: 1 to 5.
unfoldable pub geometry_answer : List ℕ → Answer Geometry
geometry_answer image = answer_of (open_volume image) (geometry_of image)

-- 000, 5.1.2.7: "H.VNAM 12 bytes Volume Name"; the fields before it have 14 bytes. Word k, from 0, of it.
unfoldable pub h_vnam : List ℕ → ℕ → ℕ
h_vnam b k = word_at b (14 + 2 * k)

-- 000, 5.1.2.9: "H.VOWN 2 bytes Volume Owner UIC", after H.VNAM and 4 bytes unused.
unfoldable pub h_vown : List ℕ → ℕ
h_vown b = word_at b 30

-- 000, 5.1.2.10: "H.VPRO 2 bytes Volume Protection Code".
unfoldable pub h_vpro : List ℕ → ℕ
h_vpro b = word_at b 32

-- 000, 5.1.2.11: "H.VCHA 2 bytes Volume Characteristics".
unfoldable pub h_vcha : List ℕ → ℕ
h_vcha b = word_at b 34

-- 000, 5.1.2.12: "H.DFPR 2 bytes Default File Protection".
unfoldable pub h_dfpr : List ℕ → ℕ
h_dfpr b = word_at b 36

-- The label in a home block.
unfoldable pub label_in : List ℕ → Label
label_in b = record {
  name1 = h_vnam b 0;
  name2 = h_vnam b 1;
  name3 = h_vnam b 2;
  name4 = h_vnam b 3;
  name5 = h_vnam b 4;
  name6 = h_vnam b 5;
  owner = h_vown b;
  protection = h_vpro b;
  characteristics = h_vcha b;
  default_protection = h_dfpr b;
}

-- The label of a volume; 01, Answer numbers: 1 to 5.
unfoldable pub label_answer : List ℕ → Answer Label
label_answer image = answer_of (open_volume image) (label_in (block image (home image)))
