-- How what became of one text, and then of the next, makes up what became of both.
use Rattle.std.proofs.Common.{◌≡◌, ℕ, ◌+◌, ◌-◌, ◌^◌, ◌<◌, Bool, true, false, List, [], ◌++◌, Option, Ok, Err, IfOk, if◌then◌else◌, refl, length, take, drop, sym, ap, ◌∙◌, subst, arith, append_assoc, append-nil, length-append, take-append-drop}
use Rattle.std.proofs.lemmas.List.{length-take-le}
use Rattle.std.proofs.Math.Seq.{take-append_seam}
use Rattle.std.proofs.KnownBytes.{Appends-nil, Appends-trans}
use Rattle.std.specs.Io.KnownBytes.{Appends}
use Rattle.morris_board.specs.Streams.{AllSent, CountsFailure, PartSent}
use Rattle.morris_board.specs.declared.streams.printer.Printer.{Printer}
use Rattle.morris_board.specs.Printers.{AllOut, CountsUp, GoesOut, IsNew, LetsOut, NoneOut, Outlet, PartOut, Takes, WentOut, has_failed_of, held_of, lent_of, outlet_of, sink_of, answer_of}

-- a count that goes up by one number, and then by another, goes up by both
counts_on : (a b c m n s : ℕ) → s ≡ m + n → CountsUp a m b → CountsUp b n c → CountsUp a s c
counts_on a b c m n s e first second few =
    let one : b ≡ a + m = first (omega (arith, e, few)) in
    let two : c ≡ b + n = second (omega (arith, e, few, one)) in
    omega (arith, e, one, two)

module _ {S : Type 0} (contents : S → Option (List ℕ)) (failures : S → ℕ) where
  -- ---- what goes out one after the other

  all_then_all : (a b c : Outlet S) (x k u l : List ℕ) → AllOut contents failures a b x k → AllOut contents failures b c (k ++ u) l
      → AllOut contents failures a c (x ++ u) l
  all_then_all a b c x k u l first second = record {
    out = first.out ++ second.out;
    split = ap (λ xs. xs ++ u) first.split ∙ append_assoc first.out k u ∙ ap (λ xs. first.out ++ xs) second.split
        ∙ sym (append_assoc first.out second.out l);
    appended = Appends-trans _ _ _ _ _ first.appended second.appended;
    count = counts_on a.sent b.sent c.sent (length first.out) (length second.out) _ (length-append first.out second.out) first.count second.count;
    uncounted = second.uncounted ∙ first.uncounted;
  }

  all_then_part : (a b c : Outlet S) (x k u : List ℕ) → AllOut contents failures a b x k → PartOut contents failures b c (k ++ u)
      → PartOut contents failures a c (x ++ u)
  all_then_part a b c x k u first second = record {
    out = first.out ++ second.out;
    rest = second.rest;
    split = ap (λ xs. xs ++ u) first.split ∙ append_assoc first.out k u ∙ ap (λ xs. first.out ++ xs) second.split
        ∙ sym (append_assoc first.out second.out second.rest);
    more = second.more;
    appended = Appends-trans _ _ _ _ _ first.appended second.appended;
    count = counts_on a.sent b.sent c.sent (length first.out) (length second.out) _ (length-append first.out second.out) first.count second.count;
    counted = subst (λ n. CountsUp n 1 (failures c.sink)) first.uncounted second.counted;
  }

  part_then_none : (a b c : Outlet S) (x u : List ℕ) → PartOut contents failures a b x → NoneOut contents failures b c
      → PartOut contents failures a c (x ++ u)
  part_then_none a b c x u part none = record {
    out = part.out;
    rest = part.rest ++ u;
    split = ap (λ xs. xs ++ u) part.split ∙ append_assoc part.out part.rest u;
    more = omega (arith, part.more, length-append part.rest u);
    appended = subst (λ s. Appends (contents a.sink) (contents s) part.out) (sym none.sink) part.appended;
    count = λ few. none.count ∙ part.count few;
    counted = λ few. ap failures none.sink ∙ part.counted few;
  }

  goes_on : (p q r : Bool) (a b c : Outlet S) (x k u l : List ℕ) → GoesOut contents failures p q a b x k → GoesOut contents failures q r b c (k ++ u) l
      → GoesOut contents failures p r a c (x ++ u) l
  goes_on false false false a b c x k u l first second = all_then_all a b c x k u l first second
  goes_on false false true a b c x k u l first second = all_then_part a b c x k u first second
  goes_on false true false a b c x k u l first second = absurd second
  goes_on false true true a b c x k u l first second = part_then_none a b c x u first second
  goes_on true false r a b c x k u l first second = absurd first
  goes_on true true false a b c x k u l first second = absurd second
  goes_on true true true a b c x k u l first second = record { sink = second.sink ∙ first.sink; count = second.count ∙ first.count }

  -- ---- one write

  -- the flags are these
  flagged : (p q : Bool) (a b : Outlet S) (x k : List ℕ) → a.failed ≡ p → b.failed ≡ q → GoesOut contents failures p q a b x k → LetsOut contents failures a b x k
  flagged p q a b x k e f goes = record {
    goes = subst (λ z. GoesOut contents failures z b.failed a b x k) (sym e) (subst (λ z. GoesOut contents failures p z a b x k) (sym f) goes);
  }

  -- nothing goes out where all of it is buffered
  preserves : (p : Bool) (a b : Outlet S) (x : List ℕ) → b ≡ a → GoesOut contents failures p p a b x x
  preserves false a b x e =
      let sent : b.sent ≡ a.sent = ap (λ (o : Outlet S). o.sent) e in
      record {
        out = [];
        split = refl;
        appended = subst (λ (o : Outlet S). Appends (contents a.sink) (contents o.sink) []) (sym e) (Appends-nil (contents a.sink));
        count = λ few. omega (arith, sent);
        uncounted = ap (λ (o : Outlet S). failures o.sink) e;
      }
  preserves true a b x e = record { sink = ap (λ (o : Outlet S). o.sink) e; count = ap (λ (o : Outlet S). o.sent) e }

  pub lets_none_out : (a b : Outlet S) (x : List ℕ) → b ≡ a → LetsOut contents failures a b x x
  lets_none_out a b x e =
      flagged a.failed a.failed a b x x refl (ap (λ (o : Outlet S). o.failed) e) (preserves a.failed a b x e)

  -- all went out
  pub went_out : (a b : Outlet S) (x : List ℕ) (n : ℕ) → a.failed ≡ false → b.failed ≡ false → (a.sent + n < 2 ^ 64 → b.sent ≡ a.sent + n) → failures b.sink ≡ failures a.sink
      → AllSent (contents a.sink) (contents b.sink) 0 n x → LetsOut contents failures a b x []
  went_out a b x n whole unfailed count uncounted sent = flagged false false a b x [] whole unfailed (record {
    out = x;
    split = sym (append-nil x);
    appended = sent.appended;
    count = λ few. let all : n ≡ length x = omega (arith, sent.count) in omega (arith, all, count (omega (arith, all, few)));
    uncounted = uncounted;
  })

  -- a front went out
  pub went_in_part : (a b : Outlet S) (x k : List ℕ) (n : ℕ) → a.failed ≡ false → b.failed ≡ true → (a.sent + n < 2 ^ 64 → b.sent ≡ a.sent + n) → failures b.sink ≡ failures a.sink + 1
      → PartSent (contents a.sink) (contents b.sink) 0 n x → LetsOut contents failures a b x k
  went_in_part a b x k n whole failed count counted part =
      let front : length (take n x) ≡ n = length-take-le n x (omega (arith, part.short)) in
      let parts : take n x ++ drop n x ≡ x = take-append-drop n x in
      let all : length (take n x) + length (drop n x) ≡ length x = sym (length-append (take n x) (drop n x)) ∙ ap length parts in
      let from : n - 0 ≡ n = omega arith in
      flagged false true a b x k whole failed (record {
        out = take n x;
        rest = drop n x;
        split = sym parts;
        more = omega (arith, part.short, front, all);
        appended = subst (λ m. Appends (contents a.sink) (contents b.sink) (take m x)) from part.appended;
        count = subst (λ m. CountsUp a.sent m b.sent) (sym front) count;
        counted = λ few. counted;
      })

  -- ---- what is put in

  -- nothing was put in
  pub Takes-nil : (a : Printer S) → Takes contents failures a a []
  Takes-nil a = record {
    same = refl;
    lets_out =
        subst (λ xs. LetsOut contents failures (outlet_of a) (outlet_of a) xs (held_of a)) (sym (append-nil (held_of a)))
        (lets_none_out (outlet_of a) (outlet_of a) (held_of a) refl);
  }

  -- one text and then another
  pub Takes-append : (a b c : Printer S) (t u : List ℕ) → Takes contents failures b c u → Takes contents failures a b t → Takes contents failures a c (t ++ u)
  Takes-append a b c t u second first = record {
    same = second.same ∙ first.same;
    lets_out = record {
      goes =
          subst (λ xs. GoesOut contents failures (has_failed_of a) (has_failed_of c) (outlet_of a) (outlet_of c) xs (held_of c)) (append_assoc (held_of a) t u)
          (goes_on (has_failed_of a) (has_failed_of b) (has_failed_of c) (outlet_of a) (outlet_of b) (outlet_of c) (held_of a ++ t) (held_of b) u (held_of c)
          first.lets_out.goes second.lets_out.goes);
    };
  }

  -- a text is held back
  pub Takes-held : (a b : Printer S) (t : List ℕ) → lent_of b ≡ lent_of a → outlet_of b ≡ outlet_of a → held_of b ≡ held_of a ++ t → Takes contents failures a b t
  Takes-held a b t same outlet held = record {
    same = same;
    lets_out =
        subst (λ xs. LetsOut contents failures (outlet_of a) (outlet_of b) (held_of a ++ t) xs) (sym held)
        (lets_none_out (outlet_of a) (outlet_of b) (held_of a ++ t) outlet);
  }

  -- what was held, and then a text, is let out
  pub Takes-out : (a b : Printer S) (t x : List ℕ) → lent_of b ≡ lent_of a → held_of a ++ t ≡ x → held_of b ≡ [] → LetsOut contents failures (outlet_of a) (outlet_of b) x []
      → Takes contents failures a b t
  Takes-out a b t x same e empty out = record {
    same = same;
    lets_out =
        subst (λ xs. LetsOut contents failures (outlet_of a) (outlet_of b) xs (held_of b)) (sym e)
        (subst (λ ks. LetsOut contents failures (outlet_of a) (outlet_of b) x ks) (sym empty) out);
  }

  -- ---- the answer at the end

  told : (q : Bool) (a b : Outlet S) (t : List ℕ) → a.sent ≡ 0 → length t < 2 ^ 64 → GoesOut contents failures false q a b t []
      → WentOut {T = ℕ} (contents a.sink) (contents b.sink) t (if q then Err b.sent else Ok b.sent)
  told false a b t zero few all =
      subst (Appends (contents a.sink) (contents b.sink)) (sym (all.split ∙ append-nil all.out)) all.appended
  told true a b t zero few part =
      let whole : length t ≡ length part.out + length part.rest = ap length part.split ∙ length-append part.out part.rest in
      let sent : b.sent ≡ length part.out = omega (arith, zero, part.count (omega (arith, zero, few, whole))) in
      let out : take b.sent t ≡ part.out = ap (λ n. take n t) sent ∙ ap (take (length part.out)) part.split ∙ take-append_seam part.out part.rest in (
        omega (arith, sent, whole, part.more),
        subst (Appends (contents a.sink) (contents b.sink)) (sym out) part.appended,
      )

  told_whole : (q : Bool) (a b : Outlet S) (t : List ℕ) → a.sent ≡ 0 → length t < 2 ^ 64 → GoesOut contents failures false q a b t []
      → IfOk {E = ℕ} (if q then Err b.sent else Ok b.sent) (λ n. n ≡ length t)
  told_whole false a b t zero few all =
      let out : all.out ≡ t = sym (all.split ∙ append-nil all.out) in
      let sent : b.sent ≡ a.sent + length all.out = all.count (omega (arith, zero, few, ap length out)) in
      omega (arith, zero, sent, ap length out)
  told_whole true a b t zero few part = tt

  told_counted : (q : Bool) (a b : Outlet S) (t : List ℕ) → failures a.sink < 2 ^ 64 - 1 → GoesOut contents failures false q a b t []
      → CountsFailure (failures a.sink) (failures b.sink) (if q then Err b.sent else Ok b.sent)
  told_counted false a b t room all = all.uncounted
  told_counted true a b t room part = part.counted (omega (arith, room))

  -- what became of a text that was put into a printer that was new, and all let out
  outcome : (a b : Printer S) (t : List ℕ) → has_failed_of a ≡ false → held_of a ≡ [] → held_of b ≡ [] → Takes contents failures a b t
      → GoesOut contents failures false (has_failed_of b) (outlet_of a) (outlet_of b) t []
  outcome a b t whole none empty takes =
      subst (λ p. GoesOut contents failures p (has_failed_of b) (outlet_of a) (outlet_of b) t []) whole
      (subst (λ xs. GoesOut contents failures (has_failed_of a) (has_failed_of b) (outlet_of a) (outlet_of b) (xs ++ t) []) none
      (subst (λ ks. GoesOut contents failures (has_failed_of a) (has_failed_of b) (outlet_of a) (outlet_of b) (held_of a ++ t) ks) empty takes.lets_out.goes))

  pub all_told : (a b : Printer S) (t : List ℕ) → IsNew a → held_of b ≡ [] → length t < 2 ^ 64
      → Takes contents failures a b t → WentOut {T = ℕ} (contents (sink_of a)) (contents (sink_of b)) t (answer_of b)
  all_told a b t new empty few takes = told (has_failed_of b) (outlet_of a) (outlet_of b) t new.none few (outcome a b t new.whole new.empty empty takes)

  pub whole_told : (a b : Printer S) (t : List ℕ) → IsNew a → held_of b ≡ [] → length t < 2 ^ 64
      → Takes contents failures a b t → IfOk (answer_of b) (λ n. n ≡ length t)
  whole_told a b t new empty few takes = told_whole (has_failed_of b) (outlet_of a) (outlet_of b) t new.none few (outcome a b t new.whole new.empty empty takes)

  pub all_counted : (a b : Printer S) (t : List ℕ) → IsNew a → held_of b ≡ [] → failures (sink_of a) < 2 ^ 64 - 1
      → Takes contents failures a b t → CountsFailure (failures (sink_of a)) (failures (sink_of b)) (answer_of b)
  all_counted a b t new empty room takes = told_counted (has_failed_of b) (outlet_of a) (outlet_of b) t room (outcome a b t new.whole new.empty empty takes)

-- the same, for what was put in already
module _ {S : Type 0} {contents : S → Option (List ℕ)} {failures : S → ℕ} {a b c : Printer S} {t : List ℕ} where
  -- a text and then another
  pub and_then : {u : List ℕ} → Takes contents failures a b t → Takes contents failures b c u → Takes contents failures a c (t ++ u)
  and_then {u = u} first second = Takes-append contents failures a b c t u second first

  -- a text and then another are this one
  pub and_then_as : {u whole : List ℕ} → whole ≡ t ++ u → Takes contents failures a b t → Takes contents failures b c u → Takes contents failures a c whole
  and_then_as e first second = subst (Takes contents failures a c) (sym e) (and_then first second)

  -- a text, and then nothing
  pub ends : Takes contents failures a b t → Takes contents failures b c [] → Takes contents failures a c t
  ends first last = subst (Takes contents failures a c) (append-nil t) (Takes-append contents failures a b c t [] last first)

-- the laws by which parts that are put in one after the other make up a text
pub ruleset takes_laws = (Takes-nil, Takes-append)
