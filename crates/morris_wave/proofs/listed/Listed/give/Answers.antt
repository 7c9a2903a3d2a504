use Rattle.std.proofs.Common.{◌≡◌, ℕ, ◌+◌, ◌<◌, Bool, true, false, not, cond, get_or, ltb, ◌∷◌, [], List, length, length-set, arith, set, sym, ap, subst, take, refl, ◌∙◌}
use Rattle.std.specs.List.{count_by}
use Rattle.std.proofs.lemmas.Bool.{and_from, and_left, eq-eqb, ne_eqb, lt-ltb}
use Rattle.std.proofs.lemmas.List.{take-append-le}
use Rattle.std.proofs.lemmas.List.Sums.{sum_by-set}
use Rattle.morris_wave.specs.Exits.{is_odd, is_won_code}
use Rattle.morris_wave.specs.NodeRanges.{Ranked}
use Rattle.morris_wave.proofs.Ranks.{ranked_more, room_left}
use Rattle.morris_wave.proofs.listed.Listed.give.Goals as goal
use Rattle.morris_wave.proofs.listed.Listed.give.Goals.{then-code-eq1, else-code-eq1}

-- a code in place of an open entry's 0
counted : (p : ℕ → Bool) (codes : List ℕ) (place code : ℕ) → place < length codes → get_or codes place 0 ≡ 0 → p 0 ≡ false → (b : Bool) → p code ≡ b
    → count_by p (set codes place code) ≡ count_by p codes + cond {A = ℕ} b 1 0
counted p codes place code l open_yet none b is =
    let one : ℕ → ℕ = λ x. cond {A = ℕ} (p x) 1 0 in
    let was : one (get_or codes place 0) ≡ 0 = ap one open_yet ∙ ap (λ t. cond {A = ℕ} t 1 0) none in
    let now : one code ≡ cond {A = ℕ} b 1 0 = ap (λ t. cond {A = ℕ} t 1 0) is in
    omega (arith, sum_by-set one codes place code 0 l, was, now)

pub put_last-requires-clause-room : goal.put_last-requires-clause-room
put_last-requires-clause-room g c =
    let s = c.args.self.now in
    let codes = s.codes in
    omega (arith, s.room, s.counted, s.won_counted, s.lost_counted, room_left codes c.args.place c.requires.inside c.requires.open)

pub invariant_of-self-clause-ranked : goal.invariant_of-self-clause-ranked
invariant_of-self-clause-ranked g c =
    let s = c.args.self.now in
    let codes = s.codes in
    subst (λ (xs : List ℕ). Ranked g.L.NodeList.retains s.first s.wave xs (g.L.NodeList.items c.put_last.new.self) s.before s.here) (sym c.put.ensures)
    (subst (λ (xs : List ℕ). Ranked g.L.NodeList.retains s.first s.wave (set codes c.args.place (s.wave + 1)) xs s.before s.here) (sym c.put_last.ensures.items)
    (ranked_more s.first s.wave s.before s.here codes (g.L.NodeList.items s.decided) s.ranked c.args.place c.requires.inside c.requires.open))

pub returns-clause-frame : goal.returns-clause-frame
returns-clause-frame g c =
    let s = c.args.self.now in
    record {
      len = ap length c.put.ensures ∙ length-set s.codes c.args.place (s.wave + 1);
      first = refl;
      wave = refl;
      before = refl;
      here = refl;
      list = ap (take s.here) c.put_last.ensures.items ∙ take-append-le s.here (g.L.NodeList.items s.decided) ((s.first + c.args.place) ∷ []) s.ranked.within;
    }

pub invariant_of-self-clause-won_counted : goal.invariant_of-self-clause-won_counted
invariant_of-self-clause-won_counted g c =
    let s = c.args.self.now in
    let code = s.wave + 1 in
    let more = counted is_won_code s.codes c.args.place code c.requires.inside c.requires.open refl in
    let put : count_by is_won_code c.put.new.self ≡ count_by is_won_code (set s.codes c.args.place code) = ap (count_by is_won_code) c.put.ensures in
    elim c.if-code-eq1.branch [
      | then-code-eq1 w ↦
          let won : c.if-code-eq1.self.1.1.1.1.0 ≡ s.won = rw w.self-is refl in
          omega (arith, won, put, s.won_counted, more false (and_left (not (is_odd code)) (ltb 0 code) (ap not (eq-eqb _ 1 w.if-code-eq1.true))))
      | else-code-eq1 w ↦
          let won : c.if-code-eq1.self.1.1.1.1.0 ≡ s.won + 1 = rw w.self-is refl in
          omega (arith, won, put, s.won_counted, more true (and_from (not (is_odd code)) (ltb 0 code) (ap not (ne_eqb _ 1 w.if-code-eq1.false)) (lt-ltb 0 code (omega arith))))
    ]

pub invariant_of-self-clause-lost_counted : goal.invariant_of-self-clause-lost_counted
invariant_of-self-clause-lost_counted g c =
    let s = c.args.self.now in
    let code = s.wave + 1 in
    let more = counted is_odd s.codes c.args.place code c.requires.inside c.requires.open refl in
    let put : count_by is_odd c.put.new.self ≡ count_by is_odd (set s.codes c.args.place code) = ap (count_by is_odd) c.put.ensures in
    elim c.if-code-eq1.branch [
      | then-code-eq1 w ↦
          let lost : c.if-code-eq1.self.1.1.1.1.1.0 ≡ s.lost + 1 = rw w.self-is refl in
          omega (arith, lost, put, s.lost_counted, more true (eq-eqb _ 1 w.if-code-eq1.true))
      | else-code-eq1 w ↦
          let lost : c.if-code-eq1.self.1.1.1.1.1.0 ≡ s.lost = rw w.self-is refl in
          omega (arith, lost, put, s.lost_counted, more false (ne_eqb _ 1 w.if-code-eq1.false))
    ]
