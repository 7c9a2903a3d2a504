-- Where the results of the captures of a position stand in their table.
use Rattle.std.specs.Prelude.{◌≡◌, ℕ, ◌-◌, true, List, Some, map, slice_index}
use Rattle.std.specs.List.{flat_map}
use Rattle.morris_board.specs.Boards.{Shape}
use Rattle.morris_board.specs.Sets.{has, members, count_of, without_point}
use Rattle.morris_board.specs.Positions.{Sides}
use Rattle.morris_moves.specs.declared.game_move.Move.{Move}
use Rattle.morris_moves.specs.Rules.{takable_stones, closes, reach, move}
use Rattle.morris_index.specs.Pairs.{Counts, sort_counts}
use Rattle.morris_index.specs.Standings.{IsStanding, IsCanonicalStanding}
use Rattle.morris_index.specs.declared.standing.Standing.{Standing}
use Rattle.morris_pairs.specs.declared.layout.Layout.{Layout}
use Rattle.morris_pairs.specs.declared.layout.Layout.TheVariants.{Full, Classes}
use Rattle.morris_pairs.specs.Tables.{Table}

-- where the entries with these own stones stand, on n points, in a layout
abbrev pub IsStandingIn : Shape → ℕ → Layout → Counts → ℕ → Standing → Type 0
IsStandingIn board n Full c other standing = IsStanding n c other standing
IsStandingIn board n Classes c other standing = IsCanonicalStanding board n c other standing

-- After a capture the other player is to move and has one stone less, and the player who moved has
-- as many as before: the pair of all results.
abbrev pub captured_pair : Sides → Counts
captured_pair s = sort_counts (count_of s.other - 1) (count_of s.own)

-- A stone of the opponent's may be taken, and the standing is where the results stand in their
-- table, in which the player to move has the stones that are left.
pub record IsLeft (board : Shape) (n : ℕ) (s : Sides) (t : Table) (taken : ℕ) (standing : Standing) : Type 0 where
  pub takes : has (takable_stones board s.other) taken ≡ true
  pub own : standing.own ≡ without_point s.other taken
  pub stands : IsStandingIn board n t.layout t.pair (count_of s.own) standing

-- the stone on u may go to v, and closes a mill there
pub record IsClosing (board : Shape) (s : Sides) (u v : ℕ) : Type 0 where
  pub own : has s.own u ≡ true
  pub goes : has (reach board s u) v ≡ true
  pub shuts : closes board s.own u v ≡ true

-- the captures of the stone on t by a move to v of one of `closers`
abbrev pub captures_at : ℕ → ℕ → ℕ → List Move
captures_at t closers v = map (λ u. move u v (Some t)) (members closers)

-- those by a move to one of the points vs, where `closers` has the stones that close a mill at each
abbrev pub captures_to : List ℕ → ℕ → List ℕ → List Move
captures_to closers t vs = flat_map (λ v. captures_at t (slice_index closers v) v) vs
