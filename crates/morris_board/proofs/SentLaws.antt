-- How what has gone out of one text, and then of the next, makes up what has gone out of both.
use Rattle.std.proofs.Common.{◌≡◌, ℕ, ◌+◌, ◌-◌, ◌≤◌, List, [], ◌++◌, Option, Result, Ok, Err, length, take, sym, ap, ◌∙◌, subst, arith, rules, length-append}
use Rattle.std.proofs.lemmas.List.{take-append-le}
use Rattle.std.proofs.Math.Seq.{take-append-add}
use Rattle.std.proofs.KnownBytes.{Appends-nil, Appends-trans}
use Rattle.std.specs.Io.KnownBytes.{Appends}
use Rattle.morris_board.specs.Streams.{AllSent, PartSent, HasSent}

-- the empty text has gone out before anything is written
pub AllSent-nil : (a : Option (List ℕ)) (sent : ℕ) → AllSent a a sent sent []
AllSent-nil a sent = record { count = search rules; appended = Appends-nil a }

-- one whole text after the other is the two as one
pub AllSent-append : (old mid new : Option (List ℕ)) (a b c : ℕ) (t u : List ℕ) → AllSent old mid a b t → AllSent mid new b c u → AllSent old new a c (t ++ u)
AllSent-append old mid new a b c t u first second = record {
  count = omega (arith, length-append t u);
  appended = Appends-trans old mid new t u first.appended second.appended;
}

-- a part of a text is a part of a longer one
pub PartSent-longer : (old new : Option (List ℕ)) (a b : ℕ) (t u : List ℕ) → PartSent old new a b t → PartSent old new a b (t ++ u)
PartSent-longer old new a b t u part =
    let short : b - a ≤ length t = omega arith in
    record {
      more = part.more;
      short = omega (arith, length-append t u);
      appended = subst (Appends old new) (sym (take-append-le (b - a) t u short)) part.appended;
    }

-- a whole text, and then a part of the next, is a part of the two as one
pub PartSent-append : (old mid new : Option (List ℕ)) (a b c : ℕ) (t u : List ℕ) → AllSent old mid a b t → PartSent mid new b c u → PartSent old new a c (t ++ u)
PartSent-append old mid new a b c t u first second =
    let taken : c - a ≡ length t + (c - b) = omega arith in
    let parts : take (c - a) (t ++ u) ≡ t ++ take (c - b) u = ap (λ n. take n (t ++ u)) taken ∙ take-append-add t u (c - b) in
    record {
      more = omega arith;
      short = omega (arith, length-append t u);
      appended = subst (Appends old new) (sym parts) (Appends-trans old mid new t _ first.appended second.appended);
    }

-- a whole text, and then what was sent of the next
pub HasSent-append : (old mid new : Option (List ℕ)) (a b : ℕ) (t u : List ℕ) (r : Result ℕ ℕ) → AllSent old mid a b t → HasSent mid new b u r → HasSent old new a (t ++ u) r
HasSent-append old mid new a b t u (Ok c) first second = AllSent-append old mid new a b c t u first second
HasSent-append old mid new a b t u (Err c) first second = PartSent-append old mid new a b c t u first second

-- where sending u after t fails, a part of any text that goes on with u after t has gone out
pub PartSent-within : (old mid new : Option (List ℕ)) (a b c : ℕ) (t u v whole : List ℕ) → AllSent old mid a b t → PartSent mid new b c u → whole ≡ t ++ u ++ v → PartSent old new a c whole
PartSent-within old mid new a b c t u v whole first second e =
    subst (PartSent old new a c) (sym e) (PartSent-longer old new a c (t ++ u) v (PartSent-append old mid new a b c t u first second))
