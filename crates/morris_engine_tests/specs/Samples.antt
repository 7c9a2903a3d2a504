-- Small graphs of the tests.
use Rattle.std.specs.Prelude.{ℕ, zero, suc, ◌<◌, ◌≤◌, ◌/◌, ◌%◌, Bool, true, false, List, [], ◌∷◌, length, ◌==◌, if◌then◌else◌}
use Rattle.std.proofs.Common.{arith}
use Rattle.std.specs.List.{All}
use Rattle.std.proofs.lemmas.List.Elements.{All-nil, All-cons}
use Rattle.morris_wave.specs.Nets.{Net, IsNet}

-- Node 0 has the quiet result node 1 and no exit. Node 1 has no quiet result, one drawn exit and
-- one exit of code 41.
abbrev pub pair_quiet : ℕ → List ℕ
pair_quiet zero = 1 ∷ []
pair_quiet (suc i) = []

abbrev pub pair_exits : ℕ → List ℕ
pair_exits zero = []
pair_exits (suc i) = 0 ∷ 41 ∷ []

abbrev pub pair_net : Net
pair_net = record { size = 2; quiet = pair_quiet; exits = pair_exits }

pair_inside : (i : ℕ) → All (λ j. j < 2) (pair_quiet i)
pair_inside zero = All-cons (λ j. j < 2) 1 [] (omega arith) (All-nil (λ j. j < 2))
pair_inside (suc i) = All-nil (λ j. j < 2)

pair_few : (i : ℕ) → length (pair_quiet i) ≤ 65535
pair_few zero = omega arith
pair_few (suc i) = omega arith

pair_codes : (i : ℕ) → All (λ c. c ≤ 65535) (pair_exits i)
pair_codes zero = All-nil (λ c. c ≤ 65535)
pair_codes (suc i) = All-cons (λ c. c ≤ 65535) 0 (41 ∷ []) (omega arith) (All-cons (λ c. c ≤ 65535) 41 [] (omega arith) (All-nil (λ c. c ≤ 65535)))

pub pair_lawful : IsNet pair_net
pair_lawful = record { small = omega arith; inside = λ i l. pair_inside i; few = λ i l. pair_few i; codes = λ i l. pair_codes i }

-- One node without quiet results. Its exits are one of the code level / 2, and a drawn one where
-- the level is odd.
abbrev pub lone_exits : ℕ → List ℕ
lone_exits level = (level / 2) % 65536 ∷ (if (level % 2) == 1 then 0 ∷ [] else [])

abbrev pub lone_net : ℕ → Net
lone_net level = record { size = 1; quiet = λ i. []; exits = λ i. lone_exits level }

drawn_codes : (b : Bool) → All (λ c. c ≤ 65535) (if b then 0 ∷ [] else [])
drawn_codes true = All-cons (λ c. c ≤ 65535) 0 [] (omega arith) (All-nil (λ c. c ≤ 65535))
drawn_codes false = All-nil (λ c. c ≤ 65535)

pub lone_lawful : (level : ℕ) → IsNet (lone_net level)
lone_lawful level = record {
  small = omega arith;
  inside = λ i l. All-nil (λ j. j < 1);
  few = λ i l. omega arith;
  codes = λ i l. All-cons (λ c. c ≤ 65535) ((level / 2) % 65536) (if (level % 2) == 1 then 0 ∷ [] else []) (omega arith) (drawn_codes ((level % 2) == 1));
}

-- level % 8192 nodes without any result
abbrev pub bare_net : ℕ → Net
bare_net level = record { size = level % 8192; quiet = λ i. []; exits = λ i. [] }

pub bare_lawful : (level : ℕ) → IsNet (bare_net level)
bare_lawful level = record {
  small = omega arith;
  inside = λ i l. All-nil (λ j. j < level % 8192);
  few = λ i l. omega arith;
  codes = λ i l. All-nil (λ c. c ≤ 65535);
}

-- Three nodes. Node 2 has the quiet result node 1. The exits of node 0 are of codes 5 and 2, those
-- of node 1 of codes 2 and 8, and that of node 2 of code 43.
abbrev pub trio_quiet : ℕ → List ℕ
trio_quiet i = if i == 2 then 1 ∷ [] else []

abbrev pub trio_exits : ℕ → List ℕ
trio_exits i = if i == 0 then 5 ∷ 2 ∷ [] else (if i == 1 then 2 ∷ 8 ∷ [] else 43 ∷ [])

abbrev pub trio_net : Net
trio_net = record { size = 3; quiet = trio_quiet; exits = trio_exits }

trio_inside : (b : Bool) → All (λ j. j < 3) (if b then 1 ∷ [] else [])
trio_inside true = All-cons (λ j. j < 3) 1 [] (omega arith) (All-nil (λ j. j < 3))
trio_inside false = All-nil (λ j. j < 3)

trio_few : (b : Bool) → length {A = ℕ} (if b then 1 ∷ [] else []) ≤ 65535
trio_few true = omega arith
trio_few false = omega arith

two_codes : (c d : ℕ) → c ≤ 65535 → d ≤ 65535 → All (λ x. x ≤ 65535) (c ∷ d ∷ [])
two_codes c d p q = All-cons (λ x. x ≤ 65535) c (d ∷ []) p (All-cons (λ x. x ≤ 65535) d [] q (All-nil (λ x. x ≤ 65535)))

trio_codes : (a b : Bool) → All (λ c. c ≤ 65535) (if a then 5 ∷ 2 ∷ [] else (if b then 2 ∷ 8 ∷ [] else 43 ∷ []))
trio_codes true b = two_codes 5 2 (omega arith) (omega arith)
trio_codes false true = two_codes 2 8 (omega arith) (omega arith)
trio_codes false false = All-cons (λ c. c ≤ 65535) 43 [] (omega arith) (All-nil (λ c. c ≤ 65535))

pub trio_lawful : IsNet trio_net
trio_lawful = record { small = omega arith; inside = λ i l. trio_inside (i == 2); few = λ i l. trio_few (i == 2); codes = λ i l. trio_codes (i == 0) (i == 1) }
