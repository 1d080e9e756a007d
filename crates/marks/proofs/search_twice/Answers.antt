-- No mark before the one found says "twice", and none does where none is found.
use Rattle.std.proofs.Common.{◌≡◌, ℕ, ◌<◌, ◌≤◌, List, take, arith, rules, Option, None, Some, get_or-take}
use Rattle.std.specs.List.{AllWithin, HoldsAt}
use Rattle.std.specs.Option.{MatchOption}
use Rattle.lists.specs.First.{first}
use Rattle.lists.proofs.FirstLaws.{first-is}
use Rattle.marks.specs.Marks.{marked_twice}
use Rattle.marks.proofs.MarkLaws.{twice-true, twice-false, twice-none}
use Rattle.marks.proofs.search_twice.Goals as goal

abbrev Found : List ℕ → ℕ → Option ℕ → Type 0
Found s k r = MatchOption r (AllWithin (λ m. m < 2) s 0 k) (λ i. (i < k) × HoldsAt (λ m. 2 ≤ m) s i × AllWithin (λ m. m < 2) s 0 i)

found-first : (area : List ℕ) (k : ℕ) (r : Option ℕ) → Found (take k area) k r
    → MatchOption r (first (marked_twice area) 0 k ≡ k) (λ i. (first (marked_twice area) 0 k ≡ i) × (i < k))
found-first area k None none = twice-none area k (λ j h. rw (← get_or-take k area j 0 h) (none j 0 (omega arith) h))
found-first area k (Some i) (inside, here, before) = (
  first-is (marked_twice area) 0 k i record {
    low = omega arith;
    high = omega arith;
    before = λ j a b. twice-false area j (rw (← get_or-take k area j 0 (omega arith)) (before j 0 (omega arith) b));
    here = λ l. twice-true area i (rw (← get_or-take k area i 0 inside) (here 0));
  },
  inside,
)

pub returns : goal.returns
returns c = found-first c.args.area.now c.args.k c.position.result (search rules)
