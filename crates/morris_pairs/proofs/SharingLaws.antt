-- What marks of chunks come to, and what rounds do.
use Rattle.std.proofs.Common.{◌≡◌, ℕ, ◌+◌, ◌-◌, ◌*◌, ◌/◌, ◌<◌, ◌≤◌, Bool, true, false, List, slice_index_or, Option, inl, inr, arith}
use Rattle.std.proofs.lemmas.Bool.{cases_lt}
use Rattle.morris_board.specs.Boards.{Shape}
use Rattle.morris_pairs.specs.Agreement.{Agrees, IsFirstIn, IsFirstToDiffer}
use Rattle.morris_pairs.specs.Entries.{entry_count}
use Rattle.morris_pairs.specs.Chunks.{AreMarked, IsAsAsked}
use Rattle.morris_pairs.specs.Tables.{Table}

module _ {A : Type 0} (board : Shape) (n : ℕ) (t : Table) (grouping : Option A) (first : ℕ) where
  -- the entries of the chunks before the first one without a mark
  pub marked-known : (marks : List Bool) (many : ℕ) → AreMarked board n t grouping first marks → ((i : ℕ) → i < many → slice_index_or marks i false ≡ true)
      → (k : ℕ) → first * 4096 ≤ k → k < (first + many) * 4096 → k < entry_count board n t.layout t.pair → IsAsAsked board t grouping k
  marked-known marks many marked set k from low inside =
      let at : first + (k / 4096 - first) ≡ k / 4096 = omega (arith, from) in
      marked (k / 4096 - first) (set (k / 4096 - first) (omega (arith, from, low))) k (omega (arith, at)) (omega (arith, at)) inside

-- the first entry of the rest of a round that doesn't agree, after others in which all do
pub round-differs : (board : Shape) (t : Table) (count round from end i : ℕ) → count ≡ entry_count board board.points t.layout t.pair → end ≤ count
    → ((k : ℕ) → k < count → k < round * 4194304 → Agrees board t k) → ((k : ℕ) → round * 4194304 ≤ k → k < from → Agrees board t k)
    → IsFirstIn board t from end i → IsFirstToDiffer board t i
round-differs board t count round from end i all within before known found = record {
  inside = omega (arith, found.inside, all, within);
  differs = found.differs;
  before = λ k low. elim (cases_lt k (round * 4194304)) [
    | inl early ↦ before k (omega (arith, found.inside, within)) early
    | inr here ↦ elim (cases_lt k from) [
      | inl early ↦ known k here early
      | inr late ↦ found.before k late low
    ]
  ];
}
