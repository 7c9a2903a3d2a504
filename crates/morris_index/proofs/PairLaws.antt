-- Laws of the pairs of numbers of stones.
use Rattle.std.proofs.Common.{◌≡◌, ℕ, ◌+◌, ◌≤◌, true, refl, inl, inr, arith}
use Rattle.std.proofs.lemmas.Bool.{cases_eq, ne_eqb, and_parts, le-leb}
use Rattle.std.specs.Result.{result_ok}
use Rattle.morris_board.specs.Sets.{count_of}
use Rattle.morris_board.specs.Positions.{Sides, is_between, is_sized}
use Rattle.morris_board.proofs.PositionLaws.{from_between, own_count}
use Rattle.morris_index.specs.Pairs.{Counts, IsPair, is_pair, make_pair, pair_of}

-- a position's numbers of stones make a pair, but for two own stones
pub ok-pair_made : (n : ℕ) (s : Sides) → is_sized s ≡ true → count_of s.own + count_of s.other ≤ n
    → result_ok (make_pair n (count_of s.own) (count_of s.other)) ≡ pair_of s
ok-pair_made n s sized fits = elim (cases_eq (count_of s.own) 2) [
  | inl e ↦ rw e refl
  | inr d ↦
      rw (ne_eqb (count_of s.own) 2 d, from_between 3 (count_of s.own) 9 (omega (arith, own.0)) (own.1), parts.1, le-leb (count_of s.own + count_of s.other) n fits) refl
]
  where
    parts : (is_between 2 (count_of s.own) 9 ≡ true) × (is_between 3 (count_of s.other) 9 ≡ true)
    parts = and_parts (is_between 2 (count_of s.own) 9) (is_between 3 (count_of s.other) 9) sized

    own : (2 ≤ count_of s.own) × (count_of s.own ≤ 9)
    own = own_count s sized

-- the test of a pair
pub pair_passes : (n : ℕ) (c : Counts) → IsPair n c → is_pair n c ≡ true
pair_passes n c h = rw (le-leb c.greater 9 h.most, le-leb c.lesser c.greater h.ordered, le-leb 3 c.lesser h.least, le-leb (c.greater + c.lesser) n h.fits) refl
