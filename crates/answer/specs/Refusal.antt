-- The number, the place and the value of each refusal (01, Answer numbers).
use Rattle.std.specs.Prelude.{ℕ, List, codes}
use Rattle.answer.specs.declared.refusal.Refusal.{Refusal}
use Rattle.answer.specs.declared.refusal.Refusal.TheVariants.{Size, Home, Geometry, Index, Storage, Relvol, Number, Header, Sequence, Segment}
use Rattle.answer.specs.declared.refusal.Refusal.TheVariants.{Locked, Chain, Vbn, Name, Absent, Work, Files, Links, Twice, Badhome, Map}
use Rattle.answer.specs.declared.refusal.Refusal.TheVariants.{Known, Fixed, Count, Full, Run, Nonumber, Room}

-- 01, Answer numbers: the table's number of each refusal.
abbrev pub number_of : Refusal → ℕ
number_of Size = 1
number_of Home = 2
number_of Geometry = 3
number_of Index = 4
number_of Storage = 5
number_of Relvol = 6
number_of Number = 7
number_of (Header t) = 8
number_of Sequence = 9
number_of Segment = 10
number_of Locked = 11
number_of Chain = 12
number_of Vbn = 13
number_of Name = 14
number_of Absent = 15
number_of Work = 16
number_of (Files n t) = 17
number_of (Links n) = 18
number_of (Twice l) = 19
number_of (Badhome l) = 20
number_of (Map j) = 21
number_of Known = 22
number_of Fixed = 23
number_of Count = 24
number_of Full = 25
number_of Run = 26
number_of Nonumber = 27
number_of Room = 28

-- 01, Answer numbers: "Except 17 to 21 a refusal has place 0". 01, The verdict: "the place is the lowest offender", which is a file
-- number, an LBN or a bit number.
abbrev pub place_of : Refusal → ℕ
place_of Size = 0
place_of Home = 0
place_of Geometry = 0
place_of Index = 0
place_of Storage = 0
place_of Relvol = 0
place_of Number = 0
place_of (Header t) = 0
place_of Sequence = 0
place_of Segment = 0
place_of Locked = 0
place_of Chain = 0
place_of Vbn = 0
place_of Name = 0
place_of Absent = 0
place_of Work = 0
place_of (Files n t) = n
place_of (Links n) = n
place_of (Twice l) = l
place_of (Badhome l) = l
place_of (Map j) = j
place_of Known = 0
place_of Fixed = 0
place_of Count = 0
place_of Full = 0
place_of Run = 0
place_of Nonumber = 0
place_of Room = 0

-- 01, Answer numbers: "every refusal has value 0 or an empty part".
abbrev pub value_of : Refusal → ℕ
value_of r = 0

-- 01, Answer numbers: the name of each refusal in the table, as text in capitals.
abbrev pub name_of : Refusal → List ℕ
name_of Size = codes "SIZE"
name_of Home = codes "HOME"
name_of Geometry = codes "GEOMETRY"
name_of Index = codes "INDEX"
name_of Storage = codes "STORAGE"
name_of Relvol = codes "RELVOL"
name_of Number = codes "NUMBER"
name_of (Header t) = codes "HEADER"
name_of Sequence = codes "SEQUENCE"
name_of Segment = codes "SEGMENT"
name_of Locked = codes "LOCKED"
name_of Chain = codes "CHAIN"
name_of Vbn = codes "VBN"
name_of Name = codes "NAME"
name_of Absent = codes "ABSENT"
name_of Work = codes "WORK"
name_of (Files n t) = codes "FILES"
name_of (Links n) = codes "LINKS"
name_of (Twice l) = codes "TWICE"
name_of (Badhome l) = codes "BADHOME"
name_of (Map j) = codes "MAP"
name_of Known = codes "KNOWN"
name_of Fixed = codes "FIXED"
name_of Count = codes "COUNT"
name_of Full = codes "FULL"
name_of Run = codes "RUN"
name_of Nonumber = codes "NONUMBER"
name_of Room = codes "ROOM"
