-- The entry of a position's successor by a quiet move.
use Rattle.std.proofs.Common.{◌≡◌, ℕ, ◌+◌, ◌<◌, ◌≤◌, true, not, ◌||◌, sym, ◌∙◌, ap, ap₂, arith}
use Rattle.morris_board.specs.Boards.{Shape}
use Rattle.morris_board.specs.Sets.{has, count_of, with_point, without_point}
use Rattle.morris_board.specs.Positions.{Sides}
use Rattle.morris_board.specs.Symmetries.{image_of, inverse_of, HasSymmetries}
use Rattle.morris_board.proofs.ImageLaws.{IsOneToOne, one_to_one, image_of-with, image_of-without}
use Rattle.morris_index.specs.Classes.{symmetry_of, representative_of}
use Rattle.morris_index.specs.ClassPairs.{canonical_form, class_index_of}
use Rattle.morris_index.specs.Pairs.{Counts}
use Rattle.morris_index.specs.Moves.{InPair, move_sides}
use Rattle.morris_index.specs.ClassMoves.{class_start_of, IsCanonicalOn}
use Rattle.morris_index.proofs.IndexLaws.{placed}
use Rattle.morris_board.proofs.PositionLaws.{own_count, other_count}
use Rattle.morris_board.proofs.SetLaws.{without_point-lt}
use Rattle.morris_index.proofs.MoveLaws.{vacant_own, vacant_other, own_lt, count_of-moved, after_placed}
use Rattle.morris_index.proofs.ClassLaws.{symmetry_leads, symmetry_within}
use Rattle.morris_index.proofs.ClassPairLaws.{entry-parts}
use Rattle.morris_index.proofs.CarriedLaws.{IsCarried, is_carried, carried_rank}

-- a move from u to v, by the images of its points and of the stones that have moved
pub record IsCanonicalMove (board : Shape) (n : ℕ) (q : InPair) (g : ℕ) (image : Sides) (first u v : ℕ) : Type 0 where
  pub from_in : u < n
  pub image_from : board.image g u < n
  pub image_to : board.image g v < n
  pub moved : image_of (board.image g) (move_sides q.position u v).other ≡ with_point (without_point image.own (board.image g u)) (board.image g v)
  pub counted : count_of (image_of (board.image g) (move_sides q.position u v).other) ≡ count_of q.position.own
  pub unmoved : IsCarried board n (move_sides q.position u v) g
  -- the opponent's images are the representative
  pub other : image.other ≡ representative_of board q.position.other
  pub entry : first + carried_rank board (move_sides q.position u v) g ≡ class_index_of board n q.pair (move_sides q.position u v)

module _ (board : Shape) (n : ℕ) (few : n ≤ 24) (points : board.points ≡ n) (y : HasSymmetries board) where
  on_board : (p : ℕ) → p < n → p < board.points
  on_board p low = omega arith

  -- the entry of a position from the images of its stones under its canonicalizing symmetry
  pub canonical_entry : (c : Counts) (s : Sides)
      → class_start_of board n c s.own (count_of s.other) + carried_rank board s (symmetry_of board s.own) ≡ class_index_of board n c s
  unfolding canonical_form representative_of
  canonical_entry c s = sym (entry-parts board n few points y c s)

  module _ (q : InPair) (g : ℕ) (image : Sides) (first : ℕ) (k : IsCanonicalOn board n q g image first) where
    abbrev s : Sides
    s = q.position

    pub canonicalizing_within : g < board.symmetries
    canonicalizing_within = rw k.leads (symmetry_within board (omega arith) y s.other k.lawful.stones.other_within)

    one : IsOneToOne board.points (board.image g) (board.image (inverse_of g))
    one = one_to_one board _ _ (y.symmetry g canonicalizing_within)

    module _ (u v : ℕ) (v_in : v < n) (here : has s.own u ≡ true) (vacant : not (has s.own v || has s.other v) ≡ true) where
      from_in : u < n
      from_in = own_lt board n points few s k.lawful u here

      moved_count : count_of (move_sides s u v).other ≡ count_of s.own
      moved_count = count_of-moved s.own v u n (placed board n s points k.lawful).own_within (omega arith) (vacant_own _ _ vacant) here v_in

      canonical_on : IsCarried board n (move_sides s u v) g
      canonical_on =
          is_carried board n few points y (move_sides s u v)
          (after_placed n few q.pair s (placed board n s points k.lawful) (own_count s k.lawful.sized).1 (other_count s k.lawful.sized).1 u v v_in
          (vacant_own _ _ vacant) (vacant_other _ _ vacant) here)
          (omega (arith, moved_count, (own_count s k.lawful.sized).1)) g canonicalizing_within (rw k.leads (symmetry_leads board s.other y.some))

      pub canonical_move : IsCanonicalMove board n q g image first u v
      canonical_move = record {
        from_in = from_in;
        image_from = omega (arith, one.within u (on_board u from_in));
        image_to = omega (arith, one.within v (on_board v v_in));
        moved =
            image_of-with board.points (omega arith) _ _ one (without_point s.own u) v (without_point-lt s.own board.points u k.lawful.stones.own_within) (on_board v v_in)
            ∙ ap (λ t. with_point t (board.image g v)) (image_of-without board.points (omega arith) _ _ one s.own u k.lawful.stones.own_within (on_board u from_in))
            ∙ ap (λ (t : Sides). with_point (without_point t.own (board.image g u)) (board.image g v)) (sym k.canonical_form);
        counted = canonical_on.counted ∙ moved_count;
        unmoved = canonical_on;
        other = ap (λ (t : Sides). t.other) k.canonical_form ∙ canonical_on.own;
        entry =
            ap₂ (λ a b. a + b) (k.start ∙ sym (ap (class_start_of board n q.pair s.other) moved_count)) (ap (carried_rank board (move_sides s u v)) k.leads)
            ∙ canonical_entry q.pair (move_sides s u v);
      }
