-- How a list of legal moves, and one of quiet un-moves, goes on from one move to the next.
use Rattle.std.proofs.Common.{◌≡◌, ℕ, Bool, true, false, ◌&&◌, ltb, [], ◌∷◌, refl, sym, ◌∙◌, Some, None, append_assoc}
use Rattle.std.specs.List.{flat_map}
use Rattle.morris_board.specs.Sets.{has, members, count_of}
use Rattle.morris_board.specs.Boards.{Shape}
use Rattle.morris_board.specs.Positions.{Sides}
use Rattle.morris_board.proofs.PointsLaws.{members-none, has-set_where, same_points}
use Rattle.morris_moves.specs.Rules.{captures, closes, goes, reach, free_stones, takable_stones, move, moves_to, moves_from, moves_of}
use Rattle.morris_moves.specs.Listing.{moves_left, stones_to_unmove, targets, back, backs_from, backs_left}
use Rattle.morris_moves.proofs.MaskLaws.{IsSteps}

module _ (b : Shape) (s : Sides) where
  -- nothing is under way before the first move
  pub moves_left_start : moves_left b s s.own 0 0 0 0 ≡ moves_of b s
  unfolding moves_left moves_of
  moves_left_start = rw members-none refl

  pub capture_next : (froms u tos v takes rest t : ℕ) → members takes ≡ t ∷ members rest
      → moves_left b s froms u tos v takes ≡ move u v (Some t) ∷ moves_left b s froms u tos v rest
  unfolding moves_left
  capture_next froms u tos v takes rest t e = rw e refl

  pub quiet_next : (froms u tos v takes rest w : ℕ) → members takes ≡ [] → members tos ≡ w ∷ members rest → closes b s.own u w ≡ false
      → moves_left b s froms u tos v takes ≡ move u w None ∷ moves_left b s froms u rest w takes
  unfolding moves_left moves_to
  quiet_next froms u tos v takes rest w none e c = rw (none, e, c) refl

  pub closing_next : (froms u tos v takes rest w : ℕ) → members takes ≡ [] → members tos ≡ w ∷ members rest → closes b s.own u w ≡ true
      → moves_left b s froms u tos v takes ≡ moves_left b s froms u rest w (takable_stones b s.other)
  unfolding moves_left moves_to
  closing_next froms u tos v takes rest w none e c = rw (none, e, c) (append_assoc (captures u w (takable_stones b s.other)) (flat_map (moves_to b s u) (members rest)) (flat_map (moves_from b s) (members froms)))

  pub stone_next : (froms u tos v takes rest w : ℕ) → members takes ≡ [] → members tos ≡ [] → members froms ≡ w ∷ members rest
      → moves_left b s froms u tos v takes ≡ moves_left b s rest w (reach b s w) v takes
  unfolding moves_left moves_from
  stone_next froms u tos v takes rest w none done e = rw (none, done, e) refl

  pub moves_left_none : (froms u tos v takes : ℕ) → members takes ≡ [] → members tos ≡ [] → members froms ≡ []
      → moves_left b s froms u tos v takes ≡ []
  unfolding moves_left
  moves_left_none froms u tos v takes none done e = rw (none, done, e) refl

-- ---- quiet un-moves

pub arrived-few : (b : Shape) (q : Sides) → ltb (count_of q.own) 3 ≡ true → stones_to_unmove b q ≡ 0
unfolding stones_to_unmove
arrived-few b q few = rw few refl

pub arrived-enough : (b : Shape) (q : Sides) → ltb (count_of q.own) 3 ≡ false → stones_to_unmove b q ≡ free_stones b q.other
unfolding stones_to_unmove
arrived-enough b q enough = rw enough refl

pub targets-has : (b : Shape) (q : Sides) (u v : ℕ) → has (targets b q u) v ≡ (ltb v b.points && (has (stones_to_unmove b q) v && goes b (count_of q.other) u v))
unfolding targets
targets-has b q u v = has-set_where b.points (λ v. has (stones_to_unmove b q) v && goes b (count_of q.other) u v) v

pub targets-steps : (b : Shape) (q : Sides) (u near r : ℕ) → IsSteps b (count_of q.other) u near
    → ((p : ℕ) → has r p ≡ (has near p && has (stones_to_unmove b q) p)) → r ≡ targets b q u
targets-steps b q u near r steps each = same_points r (targets b q u) (λ p.
    each p ∙ (rw (steps p) (both (ltb p b.points) (goes b (count_of q.other) u p) (has (stones_to_unmove b q) p)) ∙ sym (targets-has b q u p)))
  where
    both : (x y z : Bool) → ((x && y) && z) ≡ (x && (z && y))
    both false y z = refl
    both true true true = refl
    both true true false = refl
    both true false true = refl
    both true false false = refl

module _ (b : Shape) (q : Sides) where
  pub back_next : (froms u tos rest v : ℕ) → members tos ≡ v ∷ members rest → backs_left b q froms u tos ≡ back q u v ∷ backs_left b q froms u rest
  unfolding backs_left
  back_next froms u tos rest v e = rw e refl

  pub source_next : (froms u tos rest w : ℕ) → members tos ≡ [] → members froms ≡ w ∷ members rest
      → backs_left b q froms u tos ≡ backs_left b q rest w (targets b q w)
  unfolding backs_left backs_from
  source_next froms u tos rest w none e = rw (none, e) refl

  pub backs_left_none : (froms u tos : ℕ) → members tos ≡ [] → members froms ≡ [] → backs_left b q froms u tos ≡ []
  unfolding backs_left
  backs_left_none froms u tos none done = rw (none, done) refl
