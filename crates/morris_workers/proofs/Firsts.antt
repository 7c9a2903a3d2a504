-- What holds of all elements of a list holds of its first one or its last one, and of the rest.
use Rattle.std.proofs.Common.{◌≡◌, List, [], ◌∷◌, ◌++◌, Some, ℕ, length, take, drop, ap, ◌∙◌, subst, drop_of_length-le, append-nil, length-append, arith}
use Rattle.std.proofs.lemmas.List.{take_all}
use Rattle.std.specs.List.{All}
use Rattle.std.proofs.lemmas.List.Elements.{All-head, All-tail, All-pop}

pub of_first : {X : Type 0} (P : X → Type 0) (all : List X) (first : X) (rest : List X) → all ≡ first ∷ rest → All P all → P first
of_first P all first rest cut holds = All-head P first rest (subst (All P) cut holds)

pub of_rest : {X : Type 0} (P : X → Type 0) (all : List X) (first : X) (rest : List X) → all ≡ first ∷ rest → All P all → All P rest
of_rest P all first rest cut holds = All-tail P first rest (subst (All P) cut holds)

pub of_front_and_last : {X : Type 0} (P : X → Type 0) (all : List X) (last : X) (rest : List X) → all ≡ rest ++ last ∷ [] → All P all → All P rest × P last
of_front_and_last P all last rest cut holds = All-pop P all rest (Some last) cut holds

-- where the others are as many, so are all
pub as_long : {X : Type 0} (xs ys : List X) (x y : X) (all : List X) → all ≡ xs ++ x ∷ [] → length ys ≡ length xs → length (ys ++ y ∷ []) ≡ length all
as_long xs ys x y all cut same = omega (arith, ap length cut, length-append xs (x ∷ []), length-append ys (y ∷ []))

-- a list whose elements were all changed in place is what they became
pub written_back : {X : Type 0} (old new : List X) (n : ℕ) → n ≡ length old → length new ≡ length old → take n (new ++ drop (length new) old) ≡ new
written_back old new n len same =
    let none : new ++ drop (length new) old ≡ new = ap (λ l. new ++ l) (drop_of_length-le old {i = length new} (omega arith)) ∙ append-nil new in
    ap (take n) none ∙ take_all n new (omega arith)
