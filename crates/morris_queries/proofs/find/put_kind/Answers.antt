use Rattle.std.proofs.Common.{◌≡◌, ℕ, ◌+◌, ◌<◌, ◌≤◌, ◌∙◌, Bool, false, true, List, [], ◌++◌, Option, length, take, refl, sym, ap, subst, arith, length-append}
use Rattle.std.proofs.lemmas.List.{length-take}
use Rattle.std.proofs.lemmas.Result.{err_from_is_err_and}
use Rattle.morris_board.specs.Boards.{Shape}
use Rattle.morris_board.specs.Positions.{Sides}
use Rattle.morris_board.specs.declared.streams.Failed.{Failed}
use Rattle.morris_index.specs.Pairs.{IsPair}
use Rattle.morris_pairs.specs.Counting.{CodedEntries, table_of}
use Rattle.morris_pairs.specs.Entries.{entry_count, entry_index}
use Rattle.morris_pairs.proofs.CountLaws.{for_some}
use Rattle.morris_jobs.proofs.CountedLaws.{both_some, some_map}
use Rattle.morris_board.specs.Printers.{has_failed_of}
use Rattle.morris_board.proofs.PrinterLaws.{Takes-nil, and_then_as}
use Rattle.morris_queries.specs.Found.{AreFound, AreOf, IsStated, found_text}
use Rattle.morris_queries.specs.declared.wanted.Kind.{Kind}
use Rattle.morris_queries.proofs.FoundLaws.{all_to, asked_below, found_all, found_enough, found_first, found_more, found_none, found_same, found_text-append, none_stated, not_ok, stated_inside, stated_of}
use Rattle.morris_queries.proofs.find.put_kind.Goals as goal
use Rattle.morris_queries.proofs.find.put_kind.Goals.{then-left-eq0-via-then-left-eq0, then-left-eq0-via-else-left-eq0+then-has_failed}

-- so many are found of a kind
abbrev are : Shape → CodedEntries → Bool → Option Kind → List ℕ → ℕ → List Sides → Type 0
are board entries all kind known n ps = AreOf (IsStated board (table_of entries known) all) (entry_index board board.points entries.layout entries.pair) n kind ps

-- nothing is looked for
pub returns-in_default-clause-put : goal.returns-in_default-clause-put
unfolding found_text
returns-in_default-clause-put g c = record {
  positions = [];
  few = omega arith;
  takes = Takes-nil g.S.Sink.contents g.S.Sink.failures c.args.out.now;
  rest = omega arith;
  found = for_some c.args.entries.now.stated _ (λ known is.
      all_to (are g.B.Geometry.shape c.args.entries.now c.args.all c.args.kind known) c.args.most [] c.args.most (has_failed_of c.args.out.now) (rw c.in_default.is refl));
}

pub loop-entry-init : goal.loop-entry-init
unfolding found_text
loop-entry-init g c = record {
  stays = refl;
  found = (
    [],
    omega arith,
    Takes-nil g.S.Sink.contents g.S.Sink.failures c.args.out.now,
    omega arith,
    for_some c.args.entries.now.stated _ (λ known is. found_none _ _ c.args.most),
  );
}

pub loop-entry-preserved : goal.loop-entry-preserved
loop-entry-preserved g c =
    let board : Shape = g.B.Geometry.shape in
    let entries : CodedEntries = c.args.entries.now in
    let at : Sides → ℕ = entry_index board board.points entries.layout entries.pair in
    let e = c.loop-entry.entry in
    let found = c.loop-entry.invariant.found in
    let read = rw c.loop-entry.invariant.stays at c.in_ok-code.ensures.read in
    let puts = rw (c.read_code.ensures.stays ∙ c.loop-entry.invariant.stays) at c.put_entry-left.ensures in
    let more : List Sides = take c.loop-entry.left puts.positions in
    record {
      stays = c.read_code.ensures.stays ∙ c.loop-entry.invariant.stays;
      found = (
        found.0 ++ more,
        omega (arith, found.1, puts.few, length-append found.0 more, length-take c.loop-entry.left puts.positions),
        and_then_as (found_text-append board found.0 more) found.2 puts.takes,
        omega (arith, found.3, puts.rest, length-append found.0 more, length-take c.loop-entry.left puts.positions),
        both_some entries.stated _ _ _ (λ known here code.
            subst (λ n. AreFound (asked_below (IsStated board (table_of entries known) c.args.all c.in-Some.kind) at c.args.most (e + 1)) at c.args.most (found.0 ++ take n puts.positions)) (sym found.3)
            (found_more (IsStated board (table_of entries known) c.args.all c.in-Some.kind) at c.args.most e found.0 puts.positions here
            (stated_of board (table_of entries known) c.args.all c.in-Some.kind e
            (rw (← code, ← c.value_of_code.ensures, ← c.has.ensures) c.if-not-has.false) puts.positions puts.each) puts.once)) found.4 read,
      );
    }

-- a code of another kind
pub loop-entry-preserved-then-not-has : goal.loop-entry-preserved-then-not-has
loop-entry-preserved-then-not-has g c =
    let board : Shape = g.B.Geometry.shape in
    let entries : CodedEntries = c.args.entries.now in
    let at : Sides → ℕ = entry_index board board.points entries.layout entries.pair in
    let e = c.loop-entry.entry in
    let found = c.loop-entry.invariant.found in
    let read = rw c.loop-entry.invariant.stays at c.in_ok-code.ensures.read in
    record {
      stays = c.read_code.ensures.stays ∙ c.loop-entry.invariant.stays;
      found = (
        found.0,
        omega (arith, found.1),
        found.2,
        found.3,
        both_some entries.stated _ _ _ (λ known here code.
            found_same (IsStated board (table_of entries known) c.args.all c.in-Some.kind) at c.args.most e found.0
            (none_stated board (table_of entries known) c.args.all c.in-Some.kind e
            (rw (← code, ← c.value_of_code.ensures, ← c.has.ensures) c.if-not-has.true)) here) found.4 read,
      );
    }

-- as many as there may be were found, or those before a write that failed
pub returns-then-left-eq0-clause-put : goal.returns-then-left-eq0-clause-put
returns-then-left-eq0-clause-put g c =
    let board : Shape = g.B.Geometry.shape in
    let entries : CodedEntries = c.args.entries.now in
    let at : Sides → ℕ = entry_index board board.points entries.layout entries.pair in
    let found = c.loop-entry.invariant.found in
    record {
      positions = found.0;
      few = omega (arith, found.1, c.loop-entry.auto.entry-end, c.count-entry-end.ensures.few);
      takes = found.2;
      rest = found.3;
      found =
          some_map entries.stated _ _
          (λ known here. elim c.then-left-eq0.branch [
            | then-left-eq0-via-then-left-eq0 w ↦ all_to (are board entries c.args.all c.args.kind known) c.args.most found.0 c.loop-entry.left (has_failed_of c.loop-entry.out) (rw c.in-Some.is
                (found_enough (IsStated board (table_of entries known) c.args.all c.in-Some.kind) at c.args.most c.loop-entry.entry found.0
                (omega (arith, found.3, here.few, w.if-left-eq0.true)) here))
            | then-left-eq0-via-else-left-eq0+then-has_failed w ↦ (
              length found.0,
              here.few,
              (λ ok well. let failed : has_failed_of c.loop-entry.out ≡ true = sym w.has_failed.ensures ∙ w.if-has_failed.true in cc),
              rw c.in-Some.is
                  (found_first (IsStated board (table_of entries known) c.args.all c.in-Some.kind) at c.args.most c.loop-entry.entry found.0 here),
            )
          ]) found.4;
    }

-- those before a code that can't be read
pub returns-in_err-code-clause-put : goal.returns-in_err-code-clause-put
returns-in_err-code-clause-put g c =
    let board : Shape = g.B.Geometry.shape in
    let entries : CodedEntries = c.args.entries.now in
    let at : Sides → ℕ = entry_index board board.points entries.layout entries.pair in
    let found = c.loop-entry.invariant.found in
    let failed = err_from_is_err_and c.from_residual.result c.from_residual.ensures.1 in
    rw failed.1 (record {
      positions = found.0;
      few = omega (arith, found.1, c.loop-entry.auto.entry-end, c.count-entry-end.ensures.few);
      takes = found.2;
      rest = tt;
      found =
          some_map entries.stated _ _
          (λ known here. (
            length found.0,
            here.few,
            not_ok ℕ Failed _ failed.0,
            rw c.in-Some.is
                (found_first (IsStated board (table_of entries known) c.args.all c.in-Some.kind) at c.args.most c.loop-entry.entry found.0 here),
          )) found.4;
    })

-- where no call fails, each code is read
pub returns-in_err-code-clause-sure : goal.returns-in_err-code-clause-sure
returns-in_err-code-clause-sure g c = λ unfailing.
    let none : false ≡ true = c.in_err-code.ensures.sure (ap (λ (e : CodedEntries). e.unfailing) c.loop-entry.invariant.stays ∙ unfailing) in
    cc

-- all entries were looked at
pub returns-clause-put : goal.returns-clause-put
returns-clause-put g c =
    let board : Shape = g.B.Geometry.shape in
    let few : board.points ≤ 24 = omega (arith, g.met.B.Geometry.few, g.met.B.Geometry.point_count) in
    let entries : CodedEntries = c.args.entries.now in
    let at : Sides → ℕ = entry_index board board.points entries.layout entries.pair in
    let lawful : IsPair board.points entries.pair = rw g.met.B.Geometry.point_count c.count-entry-end.ensures.lawful in
    let found = c.loop-entry.invariant.found in
    let at_end : c.loop-entry.entry ≡ c.count-entry-end.result = omega (arith, c.loop-entry-test.false, c.loop-entry.auto.entry-end) in
    let last : c.loop-entry.entry ≡ entry_count board board.points entries.layout entries.pair =
    at_end ∙ (c.count-entry-end.ensures.value ∙ ap (λ n. entry_count board n entries.layout entries.pair) (sym g.met.B.Geometry.point_count)) in
    record {
      positions = found.0;
      few = omega (arith, found.1, c.loop-entry.auto.entry-end, c.count-entry-end.ensures.few);
      takes = found.2;
      rest = found.3;
      found =
          some_map entries.stated _ _
          (λ known here. all_to (are board entries c.args.all c.args.kind known) c.args.most found.0 c.loop-entry.left (has_failed_of c.loop-entry.out) (rw c.in-Some.is
          (found_all (IsStated board (table_of entries known) c.args.all c.in-Some.kind) at c.args.most c.loop-entry.entry found.0
          (λ s a. subst (λ n. at s < n) (sym last) (stated_inside board few g.met.B.Geometry.has_symmetries (table_of entries known) lawful c.args.all c.in-Some.kind s a)) here))) found.4;
    }
