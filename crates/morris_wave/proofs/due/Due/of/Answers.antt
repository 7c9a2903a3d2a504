use Rattle.std.proofs.Common.{◌≡◌, ◌<◌, ◌≤◌, ℕ, ◌+◌, ◌++◌, ◌∷◌, [], List, length, set, slice_index, refl, sym, ap, subst, ◌∙◌, arith}
use Rattle.std.specs.List.{All}
use Rattle.std.proofs.lemmas.List.{length-map}
use Rattle.morris_wave.specs.declared.gaps.Gaps.{Gaps}
use Rattle.morris_wave.specs.GapLists.{nodes_of}
use Rattle.morris_wave.specs.Lists.{contents, list_at}
use Rattle.morris_wave.specs.NodeRanges.{ListsDue}
use Rattle.morris_wave.proofs.DueLists.{due_none, due_skip, due_more}
use Rattle.morris_wave.proofs.due.Due.of.Goals.{then-wave-gt0+in_ok-put_due, else-wave-gt0}
use Rattle.morris_wave.proofs.due.Due.of.Goals as goal

pub loop-place-init : goal.loop-place-init
loop-place-init c = (
  refl,
  λ k d l. omega (arith, c.in_ok-lists.ensures.next k d l),
  due_none (λ k. slice_index c.args.waves.now k) c.args.first (contents nodes_of c.in_ok-lists.lists.items) c.in_ok-lists.ensures.empty,
)

pub loop-place-preserved : goal.loop-place-preserved
loop-place-preserved c =
    let f = λ (k : ℕ). slice_index c.args.waves.now k in
    let place = c.loop-place.place in
    let inv = c.loop-place.invariant in
    let old = contents nodes_of c.loop-place.lists.items in
    elim c.if-wave-gt0.branch [
      | then-wave-gt0+in_ok-put_due w ↦
          let put : contents nodes_of w.put_due.new.lists.items ≡ set old (f place) (list_at old (f place) ++ (c.args.first + place) ∷ []) =
          w.in_ok-put_due.ensures.put ∙ ap (λ (t : ℕ). set old t (list_at old t ++ (c.args.first + place) ∷ [])) w.from.ensures in
          let within : f place < length old =
          omega (
            arith,
            length-map c.loop-place.lists.items nodes_of,
            inv.0,
            c.in_ok-lists.ensures.len,
            c.in_ok-lists.lists.ok.0,
            ap length c.deref.ensures.value,
            c.in_ok-counts.counts.ok.0,
            c.in_ok-counts.ensures place 0 c.loop-place-test.true,
          ) in (
            omega (arith, ap (λ v. length v.items) w.lists-is, w.put_due.ensures.len, w.put_due.new.lists.ok.0, c.loop-place.lists.ok.0, inv.0),
            subst (λ (xs : List Gaps). All (λ list. list.next ≤ c.args.first + (place + 1)) xs) (sym (ap (λ v. v.items) w.lists-is)) (λ k d l. omega (arith, w.in_ok-put_due.ensures.next k d l)),
            subst (λ (xs : List (List ℕ)). ListsDue f 0 c.args.first (place + 1) xs) (sym (ap (λ v. contents nodes_of v.items) w.lists-is ∙ put))
                (due_more f c.args.first place old inv.2 w.if-wave-gt0.true within),
          )
      | else-wave-gt0 w ↦ (
        ap (λ v. length v.items) w.lists-is ∙ inv.0,
        subst (λ (xs : List Gaps). All (λ list. list.next ≤ c.args.first + (place + 1)) xs) (sym (ap (λ v. v.items) w.lists-is)) (λ k d l. omega (arith, inv.1 k d l)),
        subst (λ (xs : List (List ℕ)). ListsDue f 0 c.args.first (place + 1) xs) (sym (ap (λ v. contents nodes_of v.items) w.lists-is))
            (due_skip f c.args.first place old inv.2 (omega (arith, w.if-wave-gt0.false))),
      )
    ]
