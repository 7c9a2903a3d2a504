-- The pairs are done one after the other.
use Rattle.std.proofs.Common.{◌≡◌, ℕ, ◌∷◌, [], ◌++◌, Option, Some, None, Ok, Err, false, length, length-append, refl, sym, ap, subst, ◌∙◌, inr, arith, append_assoc}
use Rattle.std.specs.Prelude.{IfSome, option_to_list}
use Rattle.std.proofs.lemmas.Result.{err_from_is_err_and}
use Rattle.morris_index.specs.Pairs.{Counts, below_of}
use Rattle.morris_pairs.specs.Shelves.{table_on}
use Rattle.morris_jobs.specs.Faults.{CountsWrites}
use Rattle.morris_jobs.specs.Building.{HasExactAt, stones}
use Rattle.morris_jobs.proofs.NearLaws.{IsLast, last_near, most_last, near-more, near-ready}
use Rattle.morris_folder_commands.specs.Filling.{IsThere, Rest, rest_of}
use Rattle.morris_folder_commands.specs.Into.{place_of}
use Rattle.morris_folder_commands.proofs.CauseLaws.{cause_on, caused_on}
use Rattle.morris_folder_commands.proofs.FillLaws.{begins, comes_to, goes_from, goes_further, spares_waiting, waits}
use Rattle.morris_folder_commands.proofs.into.add_files.Goals as goal

pub loop-below-init : goal.loop-below-init
loop-below-init g c =
    let whole = c.into_iter-below-iterator.ensures.into_iter_gives ∙ c.below-below-items.ensures.pairs in
    let none = c.requires.waiting in
    record {
      split = whole;
      near = λ other m near. absurd (omega (arith, m.1));
      there = subst (λ (o : Option Counts). IfSome o (IsThere g.B.Geometry.shape c.args.filling.now.layout c.args.tables.now)) (sym none) tt;
      last = subst (λ (o : Option Counts). IfSome o (IsLast [])) (sym none) tt;
      leads = begins g.B.Geometry.shape c.args.filling.now.layout c.args.filling.now.board.now c.args.filling.now.context.parallelism.blocks c.args.filled.now.written.items
          c.args.filled.now.sent c.args.filled.now.waiting c.into_iter-below-iterator.result (below_of c.args.filling.now.pair)
          (place_of (g.F.Folder.files c.args.folder.now) (g.O.Sink.contents c.args.output.now)) c.requires.none c.requires.sent none whole;
      count = omega (arith, ap length c.requires.none, ap (λ (o : Option Counts). length (option_to_list o)) none, c.args.filled.now.written.ok.0);
      locked = c.requires.locked;
      unfailed = refl;
      uncounted = refl;
      reported = g.met.T.Watch.stays c.args.progress.now;
    }

-- ---- what is asked of the calls

-- the table whose file waits isn't dropped
pub build_beside-requires-clause-there : goal.build_beside-requires-clause-there
build_beside-requires-clause-there g c = λ κs within.
    let l = c.loop-below in
    let split = ap (λ rest. l.yielded ++ rest) (sym c.in-Some.ensures.steps) ∙ l.invariant.split in
    let near = last_near c.args.filling.now.pair l.yielded c.next.new.self c.in-Some.below l.filled.waiting c.below-below-items.ensures.needs_first split
    l.invariant.last in
    spares_waiting g.B.Geometry.shape c.args.filling.now.layout l.tables c.drop_unneeded.new.tables c.in-Some.below l.filled.waiting near c.drop_unneeded.ensures.near
    l.invariant.there

pub build_beside-requires-clause-room : goal.build_beside-requires-clause-room
build_beside-requires-clause-room g c = λ κs within.
    let l = c.loop-below in
    omega (arith, l.invariant.count, ap length l.invariant.split, length-append l.yielded l.below-iterator, c.below-below-items.ensures.few)

pub build_beside-requires-clause-ready : goal.build_beside-requires-clause-ready
build_beside-requires-clause-ready g c = λ κs within.
    near-ready g.B.Geometry.shape c.args.filling.now.layout c.args.filling.now.pair c.loop-below.yielded c.next.new.self c.in-Some.below c.below-below-items.ensures.needs_first
    (ap (λ rest. c.loop-below.yielded ++ rest) (sym c.in-Some.ensures.steps) ∙ c.loop-below.invariant.split)
    c.loop-below.tables c.drop_unneeded.new.tables c.loop-below.invariant.near c.drop_unneeded.ensures.near

pub file_waiting-requires-clause-there : goal.file_waiting-requires-clause-there
file_waiting-requires-clause-there g c =
    let t = c.in_ok-table.table in
    let b = c.in_ok-table.ensures.built in
    ((t, subst (λ (p : Counts). table_on c.put.new.self p ≡ Some t) b.pair c.put.ensures.this, b.pair, b.layout, b.exact), b.within)

pub file_waiting-requires-clause-room : goal.file_waiting-requires-clause-room
file_waiting-requires-clause-room g c =
    let l = c.loop-below in
    let split = ap (λ rest. l.yielded ++ rest) (sym c.in-Some.ensures.steps) ∙ l.invariant.split in
    omega (
      arith,
      c.in_ok-table.ensures.count,
      l.invariant.count,
      ap length split,
      length-append l.yielded (c.in-Some.below ∷ c.next.new.self),
      c.below-below-items.ensures.few,
    )

pub file_waiting-requires-2-clause-there : goal.file_waiting-requires-2-clause-there
file_waiting-requires-2-clause-there g c = c.loop-below.invariant.there

pub file_waiting-requires-2-clause-room : goal.file_waiting-requires-2-clause-room
file_waiting-requires-2-clause-room g c =
    let l = c.loop-below in
    omega (arith, l.invariant.count, ap length l.invariant.split, length-append l.yielded l.below-iterator, c.below-below-items.ensures.few)

-- ---- a refusal

-- of the pair, or of the file before it
pub returns-in_err-table-clause-filled : goal.returns-in_err-table-clause-filled
returns-in_err-table-clause-filled g c = λ unchanged.
    let failed = err_from_is_err_and c.from_residual.result c.from_residual.ensures.1 in
    let filling = c.args.filling.now in
    let l = c.loop-below in
    let new = c.build_beside.new.filled in
    let pairs = c.in-Some.below ∷ c.next.new.self in
    let start : Rest = record {
      pairs = below_of filling.pair;
      sent = 0;
      digests = [];
      here = place_of (g.F.Folder.files c.args.folder.now) (g.O.Sink.contents c.args.output.now);
    } in
    rw (failed.1, failed.2)
    (inr (goes_from g.B.Geometry.shape filling.layout filling.board.now filling.context.parallelism.blocks {T = Unit {0}} start l.filled.written.items l.filled.sent l.filled.waiting
    l.below-iterator pairs (place_of (g.F.Folder.files l.folder) (g.O.Sink.contents l.output))
    (rest_of filling.board.now new.written.items new.sent new.waiting pairs
    (place_of (g.F.Folder.files c.build_beside.new.folder) (g.O.Sink.contents c.build_beside.new.output)))
    (Err c.in_err-table.field-0.0) c.in-Some.ensures.steps l.invariant.leads (c.in_err-table.ensures.filled c.next.new.self) unchanged))

pub returns-in_err-table-clause-caused : goal.returns-in_err-table-clause-caused
returns-in_err-table-clause-caused g c =
    let failed = err_from_is_err_and c.from_residual.result c.from_residual.ensures.1 in
    rw (failed.1, failed.2)
    (caused_on g.F.Reader.Source.failures g.F.Writer.Sink.failures (Some false) (Some false) ⊥ ⊥ (g.F.Folder.failures c.args.folder.now)
    (g.F.Folder.failures c.loop-below.folder) (g.F.Folder.failures c.build_beside.new.folder) c.loop-below.invariant.unfailed (λ h. h) (λ h. h)
    c.in_err-table.field-0.0 c.in_err-table.ensures.caused)

pub returns-in_err-table-clause-counted : goal.returns-in_err-table-clause-counted
returns-in_err-table-clause-counted g c =
    let failed = err_from_is_err_and c.from_residual.result c.from_residual.ensures.1 in
    rw (failed.1, failed.2)
    (subst (λ (n : ℕ). CountsWrites {T = Unit {0}} n (g.O.Sink.failures c.build_beside.new.output) (Err c.in_err-table.field-0.0)) c.loop-below.invariant.uncounted
    c.in_err-table.ensures.counted)

pub returns-in_err-table-clause-reported : goal.returns-in_err-table-clause-reported
returns-in_err-table-clause-reported g c = g.met.T.Watch.joins _ _ _ c.loop-below.invariant.reported c.build_beside.ensures.reported

-- of the pair's own file, where there is one worker
pub returns-in_err-file_waiting-clause-filled : goal.returns-in_err-file_waiting-clause-filled
returns-in_err-file_waiting-clause-filled g c = λ unchanged.
    let failed = err_from_is_err_and c.from_residual-in_err-file_waiting.result c.from_residual-in_err-file_waiting.ensures.1 in
    let board = g.B.Geometry.shape in
    let filling = c.args.filling.now in
    let l = c.loop-below in
    let pair = c.in-Some.below in
    let rest = c.next.new.self in
    let new = c.build_beside.new.filled in
    let here = place_of (g.F.Folder.files c.build_beside.new.folder) (g.O.Sink.contents c.build_beside.new.output) in
    let start : Rest = record {
      pairs = below_of filling.pair;
      sent = 0;
      digests = [];
      here = place_of (g.F.Folder.files c.args.folder.now) (g.O.Sink.contents c.args.output.now);
    } in
    let leads = waits board filling.layout filling.board.now filling.context.parallelism.blocks start l.filled.written.items new.written.items l.filled.sent new.sent
    l.filled.waiting new.waiting l.below-iterator pair rest (place_of (g.F.Folder.files l.folder) (g.O.Sink.contents l.output)) here c.in-Some.ensures.steps
    c.in_ok-table.ensures.none l.invariant.leads (c.in_ok-table.ensures.filled rest) in
    let more = c.file_waiting.new.filled in
    let next = place_of (g.F.Folder.files c.file_waiting.new.folder) (g.O.Sink.contents c.file_waiting.new.output) in
    rw (failed.1, failed.2)
    (inr (goes_further board filling.layout filling.board.now filling.context.parallelism.blocks {T = Unit {0}} start (rest_of filling.board.now new.written.items new.sent (Some pair) rest here)
    (rest_of filling.board.now more.written.items more.sent more.waiting rest next) (Err c.in_err-file_waiting.field-0.0) leads
    (c.in_err-file_waiting.ensures.filled rest) unchanged))

pub returns-in_err-file_waiting-clause-caused : goal.returns-in_err-file_waiting-clause-caused
returns-in_err-file_waiting-clause-caused g c =
    let failed = err_from_is_err_and c.from_residual-in_err-file_waiting.result c.from_residual-in_err-file_waiting.ensures.1 in
    rw (failed.1, failed.2)
    (caused_on g.F.Reader.Source.failures g.F.Writer.Sink.failures (Some false) (Some false) ⊥ ⊥ (g.F.Folder.failures c.args.folder.now)
    (g.F.Folder.failures c.build_beside.new.folder) (g.F.Folder.failures c.file_waiting.new.folder)
    (c.in_ok-table.ensures.caused ∙ c.loop-below.invariant.unfailed) (λ h. h) (λ h. h) c.in_err-file_waiting.field-0.0 c.in_err-file_waiting.ensures.caused)

pub returns-in_err-file_waiting-clause-counted : goal.returns-in_err-file_waiting-clause-counted
returns-in_err-file_waiting-clause-counted g c =
    let failed = err_from_is_err_and c.from_residual-in_err-file_waiting.result c.from_residual-in_err-file_waiting.ensures.1 in
    rw (failed.1, failed.2)
    (subst (λ (n : ℕ). CountsWrites {T = Unit {0}} n (g.O.Sink.failures c.file_waiting.new.output) (Err c.in_err-file_waiting.field-0.0))
    (c.in_ok-table.ensures.counted ∙ c.loop-below.invariant.uncounted) c.in_err-file_waiting.ensures.counted)

pub returns-in_err-file_waiting-clause-reported : goal.returns-in_err-file_waiting-clause-reported
returns-in_err-file_waiting-clause-reported g c =
    g.met.T.Watch.joins _ _ _ (g.met.T.Watch.joins _ _ _ c.loop-below.invariant.reported c.build_beside.ensures.reported) c.file_waiting.ensures.reported

-- ---- the next pair

pub loop-below-preserved : goal.loop-below-preserved
loop-below-preserved g c =
    let board = g.B.Geometry.shape in
    let filling = c.args.filling.now in
    let l = c.loop-below in
    let pair = c.in-Some.below in
    let rest = c.next.new.self in
    let new = c.build_beside.new.filled in
    let here = place_of (g.F.Folder.files c.build_beside.new.folder) (g.O.Sink.contents c.build_beside.new.output) in
    let start : Rest = record {
      pairs = below_of filling.pair;
      sent = 0;
      digests = [];
      here = place_of (g.F.Folder.files c.args.folder.now) (g.O.Sink.contents c.args.output.now);
    } in
    let leads = waits board filling.layout filling.board.now filling.context.parallelism.blocks start l.filled.written.items new.written.items l.filled.sent new.sent
    l.filled.waiting new.waiting l.below-iterator pair rest (place_of (g.F.Folder.files l.folder) (g.O.Sink.contents l.output)) here c.in-Some.ensures.steps
    c.in_ok-table.ensures.none l.invariant.leads (c.in_ok-table.ensures.filled rest) in
    let t = c.in_ok-table.table in
    let b = c.in_ok-table.ensures.built in
    let split = ap (λ rest. l.yielded ++ rest) (sym c.in-Some.ensures.steps) ∙ l.invariant.split in
    let there : HasExactAt board filling.layout c.put.new.self pair =
    (t, subst (λ (p : Counts). table_on c.put.new.self p ≡ Some t) b.pair c.put.ensures.this, b.pair, b.layout, b.exact) in
    record {
      split = append_assoc l.yielded (pair ∷ []) rest ∙ split;
      near = near-more board filling.layout filling.pair l.yielded rest pair c.below-below-items.ensures.needs_first split l.tables c.drop_unneeded.new.tables
          c.put.new.self l.invariant.near c.drop_unneeded.ensures.near there (λ d apart. c.put.ensures.others d (λ e. apart (e ∙ b.pair)));
      there = (there, b.within);
      last = (
        λ d m. most_last filling.pair l.yielded rest pair d split m,
        omega (arith, b.exact.lawful.least, b.exact.lawful.ordered, ap stones b.pair),
      );
      leads = leads;
      count = omega (arith, c.in_ok-table.ensures.count, l.invariant.count, length-append l.yielded (pair ∷ []));
      locked = c.build_beside.ensures.locked;
      unfailed = c.in_ok-table.ensures.caused ∙ l.invariant.unfailed;
      uncounted = c.in_ok-table.ensures.counted ∙ l.invariant.uncounted;
      reported = g.met.T.Watch.joins _ _ _ l.invariant.reported c.build_beside.ensures.reported;
    }

-- where there is one worker, once the file is written
pub loop-below-preserved-in-Continue-branch-2 : goal.loop-below-preserved-in-Continue-branch-2
loop-below-preserved-in-Continue-branch-2 g c =
    let board = g.B.Geometry.shape in
    let filling = c.args.filling.now in
    let l = c.loop-below in
    let pair = c.in-Some.below in
    let rest = c.next.new.self in
    let new = c.build_beside.new.filled in
    let here = place_of (g.F.Folder.files c.build_beside.new.folder) (g.O.Sink.contents c.build_beside.new.output) in
    let start : Rest = record {
      pairs = below_of filling.pair;
      sent = 0;
      digests = [];
      here = place_of (g.F.Folder.files c.args.folder.now) (g.O.Sink.contents c.args.output.now);
    } in
    let leads = waits board filling.layout filling.board.now filling.context.parallelism.blocks start l.filled.written.items new.written.items l.filled.sent new.sent
    l.filled.waiting new.waiting l.below-iterator pair rest (place_of (g.F.Folder.files l.folder) (g.O.Sink.contents l.output)) here c.in-Some.ensures.steps
    c.in_ok-table.ensures.none l.invariant.leads (c.in_ok-table.ensures.filled rest) in
    let t = c.in_ok-table.table in
    let b = c.in_ok-table.ensures.built in
    let split = ap (λ rest. l.yielded ++ rest) (sym c.in-Some.ensures.steps) ∙ l.invariant.split in
    let there : HasExactAt board filling.layout c.put.new.self pair =
    (t, subst (λ (p : Counts). table_on c.put.new.self p ≡ Some t) b.pair c.put.ensures.this, b.pair, b.layout, b.exact) in
    let more = c.file_waiting.new.filled in
    let next = place_of (g.F.Folder.files c.file_waiting.new.folder) (g.O.Sink.contents c.file_waiting.new.output) in
    let none = c.in_ok-file_waiting.ensures.none in
    record {
      split = append_assoc l.yielded (pair ∷ []) rest ∙ split;
      near = near-more board filling.layout filling.pair l.yielded rest pair c.below-below-items.ensures.needs_first split l.tables c.drop_unneeded.new.tables
          c.put.new.self l.invariant.near c.drop_unneeded.ensures.near there (λ d apart. c.put.ensures.others d (λ e. apart (e ∙ b.pair)));
      there = subst (λ (o : Option Counts). IfSome o (IsThere board filling.layout c.put.new.self)) (sym none) tt;
      last = subst (λ (o : Option Counts). IfSome o (IsLast (l.yielded ++ pair ∷ []))) (sym none) tt;
      leads = goes_further board filling.layout filling.board.now filling.context.parallelism.blocks {T = Unit {0}} start
          (rest_of filling.board.now new.written.items new.sent (Some pair) rest here)
          (rest_of filling.board.now more.written.items more.sent more.waiting rest next) (Ok (tt {0})) leads (c.in_ok-file_waiting.ensures.filled rest);
      count = omega (
        arith,
        c.in_ok-file_waiting.ensures.count,
        ap (λ (o : Option Counts). length (option_to_list o)) none,
        c.in_ok-table.ensures.count,
        l.invariant.count,
        length-append l.yielded (pair ∷ []),
      );
      locked = c.file_waiting.ensures.locked;
      unfailed = c.in_ok-file_waiting.ensures.caused ∙ (c.in_ok-table.ensures.caused ∙ l.invariant.unfailed);
      uncounted = c.in_ok-file_waiting.ensures.counted ∙ (c.in_ok-table.ensures.counted ∙ l.invariant.uncounted);
      reported = g.met.T.Watch.joins _ _ _ (g.met.T.Watch.joins _ _ _ l.invariant.reported c.build_beside.ensures.reported) c.file_waiting.ensures.reported;
    }

-- ---- no pair is left

pub returns-clause-filled : goal.returns-clause-filled
returns-clause-filled g c =
    let filling = c.args.filling.now in
    let l = c.loop-below in
    let new = c.file_waiting-2.new.filled in
    let start : Rest = record {
      pairs = below_of filling.pair;
      sent = 0;
      digests = [];
      here = place_of (g.F.Folder.files c.args.folder.now) (g.O.Sink.contents c.args.output.now);
    } in
    let next = place_of (g.F.Folder.files c.file_waiting-2.new.folder) (g.O.Sink.contents c.file_waiting-2.new.output) in
    comes_to g.B.Geometry.shape filling.layout filling.board.now filling.context.parallelism.blocks filling.pair start.here next new.written.items new.sent new.waiting
    c.file_waiting-2.result c.file_waiting-2.ensures.none
    (goes_from g.B.Geometry.shape filling.layout filling.board.now filling.context.parallelism.blocks start l.filled.written.items l.filled.sent l.filled.waiting
    l.below-iterator [] (place_of (g.F.Folder.files l.folder) (g.O.Sink.contents l.output))
    (rest_of filling.board.now new.written.items new.sent new.waiting [] next) c.file_waiting-2.result c.in-None.ensures.steps.0 l.invariant.leads
    (c.file_waiting-2.ensures.filled []))

pub returns-clause-caused : goal.returns-clause-caused
returns-clause-caused g c =
    cause_on g.F.Reader.Source.failures g.F.Writer.Sink.failures (Some false) (Some false) ⊥ ⊥ (g.F.Folder.failures c.args.folder.now)
    (g.F.Folder.failures c.loop-below.folder) (g.F.Folder.failures c.file_waiting-2.new.folder) c.loop-below.invariant.unfailed (λ h. h) (λ h. h)
    c.file_waiting-2.result c.file_waiting-2.ensures.caused

pub returns-clause-counted : goal.returns-clause-counted
returns-clause-counted g c =
    subst (λ (n : ℕ). CountsWrites {T = Unit {0}} n (g.O.Sink.failures c.file_waiting-2.new.output) c.file_waiting-2.result) c.loop-below.invariant.uncounted
    c.file_waiting-2.ensures.counted

pub returns-clause-reported : goal.returns-clause-reported
returns-clause-reported g c = g.met.T.Watch.joins _ _ _ c.loop-below.invariant.reported c.file_waiting-2.ensures.reported
