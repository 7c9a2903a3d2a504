-- A bundle is loaded file by file.
use Rattle.std.proofs.Common.{◌≡◌, ◌-◌, ◌∙◌, arith, inr, refl, subst, Ok, Err}
use Rattle.std.proofs.lemmas.Result.{err_from_is_err_and}
use Rattle.morris_jobs.specs.declared.fault.Fault.TheVariants as fault
use Rattle.morris_jobs.specs.Bundles.{TakesBundle}
use Rattle.morris_jobs.specs.Inputs.{input_of}
use Rattle.morris_jobs.proofs.BundleLaws.{at_end, leads_on, leads_wrong, no_room_wanting, one_too_many, read_unwritten, refused_file}
use Rattle.morris_commands.specs.Probe.{Shelves}
use Rattle.morris_commands.proofs.probe.load_bundle.Goals as goal

pub loop-place-init : goal.loop-place-init
loop-place-init g c = record {
  leads = λ ending goes. goes;
  few = omega arith;
  unfailed = refl;
  reported = g.met.T.Watch.stays c.args.progress.now;
}

pub read_next-requires : goal.read_next-requires
read_next-requires g c = omega (arith, c.requires, c.loop-place.invariant.unfailed)

pub returns-in_err-raw : goal.returns-in_err-raw
returns-in_err-raw g c =
    let failed = err_from_is_err_and c.from_residual-in_err-raw.result c.from_residual-in_err-raw.ensures.1 in
    let after = input_of (g.I.Source.remaining c.read_next.new.source) (g.I.Source.failures c.read_next.new.source) in
    let l = c.loop-place in
    record {
      loaded =
          rw (failed.1, failed.2)
          (inr (
            c.in_ok-shelf.shelf,
            c.in_ok-shelf.ensures,
            l.shelf,
            l.invariant.leads _ (refused_file g.B.Geometry.shape (Shelves g.B.Geometry.shape) (λ full. Ok full) (64 - l.place) l.shelf _ after c.in_err-raw.field-0.0
                (record { read = c.in_err-raw.ensures.outcome; counted = c.in_err-raw.ensures.counted; room = c.in_err-raw.ensures.memory; place = c.in_err-raw.ensures.place })),
          ));
      unwritten = rw (failed.1, failed.2) (read_unwritten c.in_err-raw.field-0.0);
      reported = l.invariant.reported;
    }

pub returns-in_default : goal.returns-in_default
returns-in_default g c =
    let after = input_of (g.I.Source.remaining c.read_next.new.source) (g.I.Source.failures c.read_next.new.source) in
    let l = c.loop-place in
    record {
      loaded =
          inr (
            c.in_ok-shelf.shelf,
            c.in_ok-shelf.ensures,
            l.shelf,
            l.invariant.leads _ (at_end g.B.Geometry.shape (Shelves g.B.Geometry.shape) (λ full. Ok full) (64 - l.place) l.shelf _ after
                (record { read = rw c.in_default.is at c.in_ok-raw.ensures.outcome; counted = c.in_ok-raw.ensures.counted; room = no_room_wanting _; place = c.in_ok-raw.ensures.place })),
          );
      unwritten = tt;
      reported = l.invariant.reported;
    }

pub returns-then-place-eq-MOST_FILES : goal.returns-then-place-eq-MOST_FILES
returns-then-place-eq-MOST_FILES g c =
    let after = input_of (g.I.Source.remaining c.read_next.new.source) (g.I.Source.failures c.read_next.new.source) in
    let l = c.loop-place in
    let here = input_of (g.I.Source.remaining l.input) (g.I.Source.failures l.input) in
    let none : 0 ≡ 64 - l.place = omega (arith, c.if-place-eq-MOST_FILES.true) in
    record {
      loaded =
          inr (
            c.in_ok-shelf.shelf,
            c.in_ok-shelf.ensures,
            l.shelf,
            l.invariant.leads _ (subst (λ n. TakesBundle g.B.Geometry.shape (Shelves g.B.Geometry.shape) (λ full. Ok full) n l.shelf here (Err fault.TooMany, l.shelf, after)) none
                (one_too_many g.B.Geometry.shape (Shelves g.B.Geometry.shape) (λ full. Ok full) l.shelf here after c.in-Some.raw
                (record { read = rw c.in-Some.is at c.in_ok-raw.ensures.outcome; counted = c.in_ok-raw.ensures.counted; room = no_room_wanting _; place = c.in_ok-raw.ensures.place }))),
          );
      unwritten = refl;
      reported = l.invariant.reported;
    }

pub returns-in_err-join_shelf : goal.returns-in_err-join_shelf
returns-in_err-join_shelf g c =
    let failed = err_from_is_err_and c.from_residual-in_err-join_shelf.result c.from_residual-in_err-join_shelf.ensures.1 in
    let after = input_of (g.I.Source.remaining c.read_next.new.source) (g.I.Source.failures c.read_next.new.source) in
    let l = c.loop-place in
    record {
      loaded =
          rw (failed.1, failed.2)
          (inr (
            c.in_ok-shelf.shelf,
            c.in_ok-shelf.ensures,
            c.join_shelf.new.shelf,
            leads_wrong g.B.Geometry.shape (Shelves g.B.Geometry.shape) (λ full. Ok full) c.in_ok-shelf.shelf l.shelf c.join_shelf.new.shelf _ _ after c.in-Some.raw l.place
                (omega (arith, l.invariant.few, c.if-place-eq-MOST_FILES.false)) l.invariant.leads
                (record { read = rw c.in-Some.is at c.in_ok-raw.ensures.outcome; counted = c.in_ok-raw.ensures.counted; room = no_room_wanting _; place = c.in_ok-raw.ensures.place })
                c.in_err-join_shelf.field-0.0 c.in_err-join_shelf.ensures.refused,
          ));
      unwritten = rw (failed.1, failed.2) c.in_err-join_shelf.ensures.unwritten;
      reported = g.met.T.Watch.joins c.args.progress.now l.progress c.join_shelf.new.progress l.invariant.reported c.join_shelf.ensures.reported;
    }

pub loop-place-preserved : goal.loop-place-preserved
loop-place-preserved g c =
    let after = input_of (g.I.Source.remaining c.read_next.new.source) (g.I.Source.failures c.read_next.new.source) in
    let l = c.loop-place in
    record {
      leads =
          leads_on g.B.Geometry.shape (Shelves g.B.Geometry.shape) (λ full. Ok full) c.in_ok-shelf.shelf l.shelf c.join_shelf.new.shelf _ _ after c.in-Some.raw l.place
          (omega (arith, l.invariant.few, c.if-place-eq-MOST_FILES.false)) l.invariant.leads
          (record { read = rw c.in-Some.is at c.in_ok-raw.ensures.outcome; counted = c.in_ok-raw.ensures.counted; room = no_room_wanting _; place = c.in_ok-raw.ensures.place })
          c.in_ok-join_shelf.ensures.joined;
      few = omega (arith, l.invariant.few, c.if-place-eq-MOST_FILES.false);
      unfailed = c.in_ok-raw.ensures.counted ∙ l.invariant.unfailed;
      reported = g.met.T.Watch.joins c.args.progress.now l.progress c.join_shelf.new.progress l.invariant.reported c.join_shelf.ensures.reported;
    }
