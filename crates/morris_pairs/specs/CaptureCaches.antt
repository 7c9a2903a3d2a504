-- What captures lead to, by the stones before and after them, and the cache of it.
use Rattle.std.specs.Prelude.{◌≡◌, ℕ, ◌<◌, not, ◌&&◌, List, map}
use Rattle.std.specs.List.{All, flat_map}
use Rattle.morris_board.specs.Boards.{Shape}
use Rattle.morris_board.specs.Sets.{has, members, set_where, without_point}
use Rattle.morris_board.specs.Positions.{Sides, sides}
use Rattle.morris_moves.specs.Rules.{move_stone, takable_stones}
use Rattle.morris_wave.specs.Exits.{exits_of}
use Rattle.morris_pairs.specs.declared.capture_cache.CaptureCache.{CaptureCache}
use Rattle.morris_pairs.specs.declared.capture_cache.Slot.{Slot}
use Rattle.morris_pairs.specs.Codes.{code_to}
use Rattle.morris_pairs.specs.Rows.{may_close, is_closing_end}

-- the points at which a stone of `own` may close a mill where the opponent stands on `other`
unfoldable pub open_ends : Shape → ℕ → ℕ → ℕ
open_ends board own other = set_where board.points (λ v. may_close board own v && not (has other v))

-- the stones of `own` that close a mill by going to v, where v is vacant
unfoldable pub closers_at : Shape → ℕ → ℕ → ℕ
closers_at board own v = set_where board.points (λ u. has own u && is_closing_end board own u v)

-- The codes of what those captures lead to that leave the opponent `left`: one for each point that
-- is free of `left` and for each stone of `own` that closes a mill by going there. The stone that
-- is taken isn't asked for. It is to stand where no move closes a mill, and so in the way of none.
unfoldable pub codes_left : Shape → ℕ → ℕ → List ℕ
codes_left board own left =
    flat_map (λ v. map (λ u. code_to 65534 board (sides left (move_stone own u v))) (members (closers_at board own v))) (members (open_ends board own left))

-- The codes of what the captures of `stones` lead to that make `opponent_set` the opponent's set of
-- the results: one for each stone that may be taken.
unfoldable pub codes_by_opponent : Shape → ℕ → ℕ → List ℕ
codes_by_opponent board stones opponent_set = map (λ t. code_to 65534 board (sides (without_point stones t) opponent_set)) (members (takable_stones board stones))

-- those of the captures of a position by a move to v of each of the stones us
abbrev pub codes_by : Shape → Sides → ℕ → List ℕ → List ℕ
codes_by board s v us = flat_map (λ u. codes_by_opponent board s.other (move_stone s.own u v)) us

-- those of all captures by a move to one of the points vs
abbrev pub codes_at : Shape → Sides → List ℕ → List ℕ
codes_at board s vs = flat_map (λ v. codes_by board s v (members (closers_at board s.own v))) vs

-- What a slot has is the summary of the captures with its stones before and after them, whose codes
-- are known. Without stones after them it is empty.
abbrev pub IsCached : (ℕ → ℕ → List ℕ) → Slot → Type 0
IsCached codes slot = 0 < slot.after → slot.results ≡ exits_of (codes slot.before slot.after)

-- each slot has what it is to have
abbrev pub IsCaptureCache : (ℕ → ℕ → List ℕ) → CaptureCache → Type 0
IsCaptureCache codes cache = All (IsCached codes) cache.slots.items
