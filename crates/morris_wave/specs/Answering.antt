-- How a block answers to a batch, and what the batch makes of it.
use Rattle.std.specs.Prelude.{ℕ, Bool, false, not, ◌&&◌, ◌==◌, if◌then◌else◌, slice_set, slice_index_or}
use Rattle.morris_wave.specs.Blocks.{Parts, BlockState, taken_of}
use Rattle.morris_wave.specs.Batches.{BatchState}
use Rattle.morris_wave.specs.declared.block.Applied.{Applied}
use Rattle.morris_wave.specs.declared.block.Applied.TheVariants.{Done, Again, Stranger}

-- whether two cuts are of one size and number of blocks
abbrev pub is_same_cut : Parts → Parts → Bool
is_same_cut c d = (c.size == d.size) && (c.blocks == d.blocks)

-- whether the batch is for this block at its wave
abbrev pub is_for : BlockState → BatchState → Bool
is_for s b = ((b.level == s.level) && is_same_cut b.cut s.cut) && ((b.wave == s.wave) && (b.target == s.number))

-- whether the source is already applied in this wave
abbrev pub has_applied : BlockState → ℕ → Bool
has_applied s source = slice_index_or s.applied source false

-- whether the batch goes on with its source, from the highest nodes down: the source isn't applied
-- yet, and the batch ends where the nodes begin that are taken in
abbrev pub goes_on : BlockState → BatchState → Bool
goes_on s b = not (has_applied s b.source) && (b.high == taken_of s b.source)

-- a batch for another level, cut, wave or block is a stranger, and each node of a source counts
-- once a wave
abbrev pub answer_to : BlockState → BatchState → Applied
answer_to s b = if is_for s b then (if goes_on s b then Done else Again) else Stranger

-- The block after a batch. Where the batch was taken in, so are the nodes of its source from the
-- batch's first one on, and the source is applied if these are all. Otherwise nothing changed.
abbrev pub after_batch : BlockState → BatchState → BlockState
after_batch s b =
    if is_for s b && goes_on s b
    then record s { applied = slice_set s.applied b.source (b.low == 0); taken_from = slice_set s.taken_from b.source b.low }
    else s
