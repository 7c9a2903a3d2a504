-- The pairs are gone through one after the other.
use Rattle.std.proofs.Common.{◌≡◌, ◌+◌, Err, None, Some, false, refl, sym, subst, ◌∙◌, arith, rules}
use Rattle.std.specs.Option.{IfSome}
use Rattle.std.proofs.Math.Path.{ap₂}
use Rattle.std.proofs.lemmas.Result.{err_from_is_err_and}
use Rattle.morris_folder_commands.specs.From.{pairs_of}
use Rattle.morris_folder_commands.specs.FromSteps.{StopsAt}
use Rattle.morris_jobs.specs.declared.fault.Fault.TheVariants as fault
use Rattle.morris_pairs.specs.declared.file_faults.ReadFault.TheVariants as read
use Rattle.morris_files.specs.Files.{HasFailed}
use Rattle.morris_files.specs.Stored.{AnswersStored, failures_opening}
use Rattle.morris_files.specs.Names.{name_of}
use Rattle.morris_files.specs.declared.stored.StoredFault.TheVariants as stored
use Rattle.morris_folder_commands.proofs.CauseLaws.{end_caused, file_caused, taken_caused}
use Rattle.morris_folder_commands.proofs.FromLaws.{ahead_answer, ahead_before, ahead_opened, ahead_passes, ahead_unread, at_end, failed_file, kept_as_is, kept_on, missing_file, none_ahead, reader_before, skip_pair, some_on, take_pair, taken_on, taken_wrong}
use Rattle.morris_folder_commands.proofs.SurveyLaws.{all_opened, one_unopened, passes, risen, stops_later}
use Rattle.morris_folder_commands.proofs.from.verify_pairs.Goals as goal

pub loop-place-init : goal.loop-place-init
unfolding pairs_of
loop-place-init g c = record {
  leads = λ after result goes. goes;
  known =
      none_ahead g.F.Reader.Source.failures g.B.Geometry.shape (g.F.Folder.files c.args.folder.now) c.args.board.now _ c.args.ahead.now.answer
      c.requires.unread;
  inside = omega arith;
  stops = λ before stops. stops;
  room = c.requires.room.0;
  unchanged = kept_as_is (g.F.Folder.files c.args.folder.now);
  few = omega arith;
  uncounted = refl;
  reported = g.met.T.Watch.stays c.args.progress.now;
}

-- a pair that the board has no points for
pub loop-place-preserved-in_default : goal.loop-place-preserved-in_default
loop-place-preserved-in_default g c =
    let board = g.B.Geometry.shape in
    let files = g.F.Folder.files c.args.folder.now in
    let l = c.loop-place in
    record {
      leads =
          skip_pair board files c.args.board.now (g.O.Sink.contents c.args.output.now) c.args.tables.now l.place l.tables l.found l.sent
          (g.O.Sink.contents l.output) c.in_default.ensures.pair l.invariant.leads;
      known = ahead_passes g.F.Reader.Source.failures board files c.args.board.now l.place c.in_default.ensures.pair l.ahead.answer l.invariant.known;
      inside =
          passes board l.place l.ahead.end c.requires.stops.0 (g.F.Folder.failures l.folder) (l.invariant.stops c.requires.stops.0 c.requires.stops.1)
          c.in_default.ensures.pair (omega arith) l.invariant.inside;
      stops = l.invariant.stops;
      room = l.invariant.room;
      unchanged = l.invariant.unchanged;
      few = omega (arith, l.invariant.few);
      uncounted = l.invariant.uncounted;
      reported = l.invariant.reported;
    }

-- ---- the turn of a pair

pub read_stored-requires-clause-opened : goal.read_stored-requires-clause-opened
read_stored-requires-clause-opened g c =
    let same : c.take-known.result ≡ c.loop-place.ahead.answer = search rules in
    subst (λ known. IfSome known (λ a. failures_opening a ≡ 0)) (sym same)
    (ahead_opened g.F.Reader.Source.failures g.B.Geometry.shape (g.F.Folder.files c.args.folder.now) c.args.board.now c.loop-place.place
    c.loop-place.ahead.answer c.loop-place.invariant.known)

pub read_stored-requires-clause-unread : goal.read_stored-requires-clause-unread
read_stored-requires-clause-unread g c =
    let same : c.take-known.result ≡ c.loop-place.ahead.answer = search rules in
    subst (λ known. IfSome known (λ a. a ≡ Err (stored.Refused read.Read) → HasFailed g.F.Reader.Source.failures)) (sym same)
    (ahead_unread g.F.Reader.Source.failures g.B.Geometry.shape (g.F.Folder.files c.args.folder.now) c.args.board.now c.loop-place.place
    c.loop-place.ahead.answer c.loop-place.invariant.known)

-- a file that wasn't opened before
pub returns-then-place-ahead-clause-answer : goal.returns-then-place-ahead-clause-answer
returns-then-place-ahead-clause-answer g c =
    let board = g.B.Geometry.shape in
    let files = g.F.Folder.files c.args.folder.now in
    let old = g.O.Sink.contents c.args.output.now in
    let l = c.loop-place in
    let out = g.O.Sink.contents l.output in
    let empty = c.args.tables.now in
    let leads = take_pair board files c.args.board.now old empty l.place c.in-Some.pair l.tables l.found l.sent out c.in-Some.ensures.pair l.invariant.leads in
    failed_file board files c.args.board.now old empty _ c.in-Some.pair l.tables l.found l.sent out leads c.drop_unneeded.new.tables (c.drop_unneeded.ensures.gone refl) _
    (stored.Unopened, ap₂ fault.Unopened c.greater.ensures.value c.lesser.ensures.value, tt)

-- a file that can't be read
pub returns-in_err-raw-clause-answer : goal.returns-in_err-raw-clause-answer
returns-in_err-raw-clause-answer g c =
    let failed = err_from_is_err_and c.from_residual.result c.from_residual.ensures.1 in
    let board = g.B.Geometry.shape in
    let files = g.F.Folder.files c.args.folder.now in
    let name = c.args.board.now in
    let old = g.O.Sink.contents c.args.output.now in
    let l = c.loop-place in
    let out = g.O.Sink.contents l.output in
    let empty = c.args.tables.now in
    let leads = take_pair board files name old empty l.place c.in-Some.pair l.tables l.found l.sent out c.in-Some.ensures.pair l.invariant.leads in
    let same_answer : c.take-known.result ≡ l.ahead.answer = search rules in
    let known =
    subst (λ a. IfSome a (AnswersStored board files (name_of name c.in-Some.pair) c.in-Some.pair)) (sym same_answer)
    (ahead_answer g.F.Reader.Source.failures board files name l.place c.in-Some.pair c.in-Some.ensures.pair l.ahead.answer l.invariant.known) in
    rw (failed.1, failed.2)
    (failed_file board files name old empty _ c.in-Some.pair l.tables l.found l.sent out leads c.drop_unneeded.new.tables (c.drop_unneeded.ensures.gone refl) _
    (c.in_err-raw.ensures.answer files l.invariant.unchanged known))

-- no file
pub loop-place-preserved-in_default-2 : goal.loop-place-preserved-in_default-2
loop-place-preserved-in_default-2 g c =
    let board = g.B.Geometry.shape in
    let files = g.F.Folder.files c.args.folder.now in
    let name = c.args.board.now in
    let old = g.O.Sink.contents c.args.output.now in
    let l = c.loop-place in
    let out = g.O.Sink.contents l.output in
    let empty = c.args.tables.now in
    let leads = take_pair board files name old empty l.place c.in-Some.pair l.tables l.found l.sent out c.in-Some.ensures.pair l.invariant.leads in
    let same_answer : c.take-known.result ≡ l.ahead.answer = search rules in
    let known =
    subst (λ a. IfSome a (AnswersStored board files (name_of name c.in-Some.pair) c.in-Some.pair)) (sym same_answer)
    (ahead_answer g.F.Reader.Source.failures board files name l.place c.in-Some.pair c.in-Some.ensures.pair l.ahead.answer l.invariant.known) in
    record {
      leads =
          missing_file board files name old empty _ c.in-Some.pair l.tables l.found l.sent out leads c.drop_unneeded.new.tables (c.drop_unneeded.ensures.gone refl)
          (rw c.in_default-2.is at c.in_ok-raw.ensures.answer files l.invariant.unchanged known);
      known =
          (let none : c.take-known.new.self ≡ None = search rules in none_ahead g.F.Reader.Source.failures board files name _ _ none);
      inside = omega (arith, l.invariant.inside, c.if-place-ahead.false);
      stops = λ before stops.
          stops_later board l.ahead.end before (g.F.Folder.failures l.folder) (g.F.Folder.failures c.read_stored.new.folder) (l.invariant.stops before stops)
          c.in_ok-raw.ensures.caused;
      room = omega (arith, l.invariant.room, c.in_ok-raw.ensures.caused);
      unchanged = kept_on files (g.F.Folder.files l.folder) (g.F.Folder.files c.read_stored.new.folder) l.invariant.unchanged c.read_stored.ensures.unchanged;
      few = omega (arith, l.invariant.few);
      uncounted = l.invariant.uncounted;
      reported = l.invariant.reported;
    }

-- a table that isn't taken in
pub returns-in_err-sent-clause-answer : goal.returns-in_err-sent-clause-answer
returns-in_err-sent-clause-answer g c =
    let failed = err_from_is_err_and c.from_residual-in_err-sent.result c.from_residual-in_err-sent.ensures.1 in
    let board = g.B.Geometry.shape in
    let files = g.F.Folder.files c.args.folder.now in
    let name = c.args.board.now in
    let old = g.O.Sink.contents c.args.output.now in
    let l = c.loop-place in
    let out = g.O.Sink.contents l.output in
    let empty = c.args.tables.now in
    let leads = take_pair board files name old empty l.place c.in-Some.pair l.tables l.found l.sent out c.in-Some.ensures.pair l.invariant.leads in
    let same_answer : c.take-known.result ≡ l.ahead.answer = search rules in
    let known =
    subst (λ a. IfSome a (AnswersStored board files (name_of name c.in-Some.pair) c.in-Some.pair)) (sym same_answer)
    (ahead_answer g.F.Reader.Source.failures board files name l.place c.in-Some.pair c.in-Some.ensures.pair l.ahead.answer l.invariant.known) in
    rw (failed.1, failed.2)
    (taken_wrong board files name old empty _ c.in-Some.pair l.tables l.found l.sent out leads c.drop_unneeded.new.tables (c.drop_unneeded.ensures.gone refl)
    c.in-Some-2.raw (rw c.in-Some-2.is at c.in_ok-raw.ensures.answer files l.invariant.unchanged known) _ _ _ c.in_err-sent.ensures.taken)

-- one that is, while the next file was read
pub loop-place-preserved : goal.loop-place-preserved
loop-place-preserved g c =
    let board = g.B.Geometry.shape in
    let reading = g.F.Reader.Source.failures in
    let files = g.F.Folder.files c.args.folder.now in
    let name = c.args.board.now in
    let old = g.O.Sink.contents c.args.output.now in
    let l = c.loop-place in
    let out = g.O.Sink.contents l.output in
    let empty = c.args.tables.now in
    let leads = take_pair board files name old empty l.place c.in-Some.pair l.tables l.found l.sent out c.in-Some.ensures.pair l.invariant.leads in
    let same_answer : c.take-known.result ≡ l.ahead.answer = search rules in
    let known =
    subst (λ a. IfSome a (AnswersStored board files (name_of name c.in-Some.pair) c.in-Some.pair)) (sym same_answer)
    (ahead_answer reading board files name l.place c.in-Some.pair c.in-Some.ensures.pair l.ahead.answer l.invariant.known) in
    let now = g.F.Folder.files c.read_stored.new.folder in
    let same = kept_on files (g.F.Folder.files l.folder) now l.invariant.unchanged c.read_stored.ensures.unchanged in
    let next = l.place + 1 in
    let ended : c.take_in_beside.new.ahead.end ≡ c.open_next-opened.new.ahead.end = c.take_in_beside.ensures.end in
    record {
      leads =
          taken_on board files name old empty _ c.in-Some.pair l.tables l.found l.sent out leads c.drop_unneeded.new.tables (c.drop_unneeded.ensures.gone refl)
          c.in-Some-2.raw (rw c.in-Some-2.is at c.in_ok-raw.ensures.answer files l.invariant.unchanged known) _ _ c.in_ok-sent.sent c.in_ok-sent.ensures.taken;
      known =
          c.take_in_beside.ensures.ahead files name next
          (ahead_before reading board files name next now same c.open_next-opened.new.ahead.answer c.open_next-opened.ensures.ahead)
          (some_on c.open_next-opened.result _ _ (λ opened is. (is.0, reader_before files now _ _ same is.1)) c.open_next-opened.ensures.opened);
      inside = omega (arith, c.open_next-opened.ensures.inside, ended);
      stops = λ before stops.
          subst (λ end. StopsAt board end before (g.F.Folder.failures c.open_next-opened.new.folder)) (sym ended)
          (c.open_next-opened.ensures.stops before
          (stops_later board l.ahead.end before (g.F.Folder.failures l.folder) (g.F.Folder.failures c.read_stored.new.folder) (l.invariant.stops before stops)
          c.in_ok-raw.ensures.caused));
      room = c.open_next-opened.ensures.room;
      unchanged = kept_on files now (g.F.Folder.files c.open_next-opened.new.folder) same c.open_next-opened.ensures.unchanged;
      few = omega (arith, l.invariant.few, c.in_ok-sent.ensures.few);
      uncounted = c.in_ok-sent.ensures.counted ∙ l.invariant.uncounted;
      reported = g.met.T.Watch.joins _ _ _ l.invariant.reported c.take_in_beside.ensures.reported;
    }

pub take_in_beside-requires-clause-opened : goal.take_in_beside-requires-clause-opened
take_in_beside-requires-clause-opened g c κs within = some_on c.open_next-opened.result _ _ (λ opened is. is.2) c.open_next-opened.ensures.opened

-- no pair is left
pub returns-clause-answer : goal.returns-clause-answer
returns-clause-answer g c =
    let l = c.loop-place in
    at_end g.B.Geometry.shape (g.F.Folder.files c.args.folder.now) c.args.board.now (g.O.Sink.contents c.args.output.now) c.args.tables.now
    l.place l.tables l.found l.sent (g.O.Sink.contents l.output) c.end_of.result c.loop-place-test.false l.invariant.leads c.end_of.ensures

pub returns-clause-caused : goal.returns-clause-caused
returns-clause-caused g c = λ before stops.
    let l = c.loop-place in
    let new = g.F.Folder.failures l.folder in
    rw c.end_of.ensures
    (end_caused g.F.Reader.Source.failures g.F.Writer.Sink.failures (Some false) ⊥ before new l.found
    (all_opened g.B.Geometry.shape l.place l.ahead.end before new (l.invariant.stops before stops) l.invariant.inside c.loop-place-test.false))

-- ---- what a refusal has for a cause

pub returns-then-place-ahead-clause-caused : goal.returns-then-place-ahead-clause-caused
returns-then-place-ahead-clause-caused g c = λ before stops.
    let l = c.loop-place in
    one_unopened g.B.Geometry.shape l.place l.ahead.end before (g.F.Folder.failures l.folder) (l.invariant.stops before stops)
    c.if-place-ahead.true c.loop-place-test.true

pub returns-in_err-raw-clause-caused : goal.returns-in_err-raw-clause-caused
returns-in_err-raw-clause-caused g c = λ before stops.
    let failed = err_from_is_err_and c.from_residual.result c.from_residual.ensures.1 in
    let board = g.B.Geometry.shape in
    let files = g.F.Folder.files c.args.folder.now in
    let l = c.loop-place in
    let mid = g.F.Folder.failures l.folder in
    let new = g.F.Folder.failures c.read_stored.new.folder in
    let same_answer : c.take-known.result ≡ l.ahead.answer = search rules in
    let known =
    subst (λ a. IfSome a (AnswersStored board files (name_of c.args.board.now c.in-Some.pair) c.in-Some.pair)) (sym same_answer)
    (ahead_answer g.F.Reader.Source.failures board files c.args.board.now l.place c.in-Some.pair c.in-Some.ensures.pair l.ahead.answer l.invariant.known) in
    let why = c.in_err-raw.ensures.answer files l.invariant.unchanged known in
    rw (failed.1, failed.2)
    (file_caused g.F.Reader.Source.failures g.F.Writer.Sink.failures (Some false) ⊥ before new mid
    (risen board l.place l.ahead.end before mid (l.invariant.stops before stops)) c.in-Some.pair why.0 c.in_err-raw.field-0.0 why.1 c.in_err-raw.ensures.caused)

pub returns-in_err-sent-clause-caused : goal.returns-in_err-sent-clause-caused
returns-in_err-sent-clause-caused g c = λ before stops.
    let failed = err_from_is_err_and c.from_residual-in_err-sent.result c.from_residual-in_err-sent.ensures.1 in
    rw (failed.1, failed.2)
    (taken_caused g.F.Reader.Source.failures g.F.Writer.Sink.failures (Some false) ⊥ before
    (g.F.Folder.failures c.open_next-opened.new.folder) g.B.Geometry.shape c.drop_unneeded.new.tables c.take_in_beside.new.tables c.in-Some-2.raw c.loop-place.sent
    (g.O.Sink.contents c.loop-place.output) (g.O.Sink.contents c.take_in_beside.new.output) c.in_err-sent.field-0.0 c.in_err-sent.ensures.taken)
