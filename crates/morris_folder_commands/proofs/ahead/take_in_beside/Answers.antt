-- What is known of the next file is what was read of it.
use Rattle.std.proofs.Common.{◌≡◌, rules}
use Rattle.morris_files.specs.Files.{IsReaderOf}
use Rattle.morris_files.specs.Names.{name_of}
use Rattle.morris_folder_commands.proofs.FromLaws.{ahead_read}
use Rattle.morris_folder_commands.proofs.ahead.take_in_beside.Goals as goal

pub returns-clause-ahead : goal.returns-clause-ahead
returns-clause-ahead g c = λ files name place was given.
    let is = rw c.in-Some.is at given in
    let owned = c.in-Some.opened-1-own.given.0.0 in
    let pair : c.in-Some.field-0.pair ≡ owned.pair = search rules in
    let reader : g.S.Source.remaining c.in-Some.field-0.reader ≡ g.S.Source.remaining owned.reader = search rules in
    let here = rw pair at is.0 in
    let opened : IsReaderOf files (name_of name owned.pair) (g.S.Source.remaining owned.reader) = rw (pair, reader) at is.1 in
    ahead_read g.S.Source.failures g.B.Geometry.shape files name place owned.pair here c.unless_roomless.result c.take_in_reading-taken.result.1
    c.unless_roomless.ensures
    (c.take_in_reading-taken.ensures.read files (name_of name owned.pair) opened, c.take_in_reading-taken.ensures.opened, c.take_in_reading-taken.ensures.unread)
