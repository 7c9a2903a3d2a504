-- What the code computes on masks: where a stone may go, whether it stands in a mill, and which
-- stones stand in none.
use Rattle.std.proofs.Common.{◌≡◌, ℕ, ◌^◌, ◌<◌, Bool, true, false, not, ◌&&◌, ◌||◌, eqb, ltb, List, [], ◌∷◌, filter, refl, sym, ap, ◌∙◌, inl, inr}
use Rattle.std.proofs.lemmas.Bool.{cases_Bool, cases_lt, lt-ltb, and_right, both_ways}
use Rattle.std.specs.List.{list_any}
use Rattle.morris_board.specs.Sets.{has, count_of, is_subset}
use Rattle.morris_board.specs.Boards.{Shape, is_adjacent, adjacent, mills_of, mills_through}
use Rattle.morris_board.specs.Positions.{Sides}
use Rattle.morris_board.proofs.PointsLaws.{same_points, has-set_where, set_where-lt, has-none, has-above}
use Rattle.morris_moves.specs.Rules.{in_mill, is_vacant, goes, may_go, reach, free_stones}

-- ---- the mills through a point

any_filter : (f g : ℕ → Bool) (xs : List ℕ) → list_any g (filter f xs) ≡ list_any (λ m. f m && g m) xs
any_filter f g [] = refl
any_filter f g (x ∷ xs) = elim (cases_Bool (f x)) [
  | inl h ↦ rw h (ap (λ r. g x || r) (any_filter f g xs))
  | inr h ↦ rw h (any_filter f g xs)
]

pub in_mill-lines : (b : Shape) (s t first second : ℕ) → mills_through b t ≡ first ∷ second ∷ [] → (is_subset first s || is_subset second s) ≡ in_mill b s t
unfolding in_mill mills_through
in_mill-lines b s t first second e =
    ap (λ y. is_subset first s || y) (sym (or_none (is_subset second s)))
    ∙ ap (list_any (λ m. is_subset m s)) (sym e)
    ∙ any_filter (λ m. has m t) (λ m. is_subset m s) (mills_of b)
  where
    or_none : (x : Bool) → (x || false) ≡ x
    or_none true = refl
    or_none false = refl

-- ---- where a stone may go

abbrev pub IsVacancy : Shape → Sides → ℕ → Type 0
IsVacancy b s free = (p : ℕ) → has free p ≡ (ltb p b.points && is_vacant s p)

-- the points between which and u a stone of a player with n stones goes
abbrev pub IsSteps : Shape → ℕ → ℕ → ℕ → Type 0
IsSteps b n u near = (p : ℕ) → has near p ≡ (ltb p b.points && goes b n u p)

-- where the code knows the number of points by another name
pub steps-known : (b : Shape) (k n u near : ℕ) → b.points ≡ k → ((p : ℕ) → has near p ≡ (ltb p k && goes b n u p)) → IsSteps b n u near
steps-known b k n u near e each p = each p ∙ ap (λ x. ltb p x && goes b n u p) (sym e)

pub steps-slide : (b : Shape) (n u near : ℕ) → ltb 3 n ≡ true → near ≡ adjacent b u → IsSteps b n u near
unfolding adjacent
steps-slide b n u near many e p = rw (e, many) (has-set_where b.points (is_adjacent b u) p)

pub steps-jump : (b : Shape) (n u near : ℕ) → ltb 3 n ≡ false → eqb n 3 ≡ true → ((p : ℕ) → has near p ≡ ltb p b.points) → IsSteps b n u near
steps-jump b n u near few three each p = each p ∙ rw (few, three) (plain (ltb p b.points))
  where
    plain : (x : Bool) → x ≡ (x && true)
    plain true = refl
    plain false = refl

-- with fewer than three stones
pub steps-none : (b : Shape) (n u : ℕ) → ltb 3 n ≡ false → eqb n 3 ≡ false → IsSteps b n u 0
steps-none b n u few two p = has-none p ∙ rw (few, two) (sym (and_right (ltb p b.points) false refl))

pub reach-steps : (b : Shape) (s : Sides) (u near free r : ℕ) → IsSteps b (count_of s.own) u near → IsVacancy b s free
    → ((p : ℕ) → has r p ≡ (has near p && has free p)) → r ≡ reach b s u
unfolding reach may_go
reach-steps b s u near free r steps vacant each = same_points r (reach b s u) (λ p.
    each p ∙ (rw (steps p, vacant p) (both (ltb p b.points) (goes b (count_of s.own) u p) (is_vacant s p))
    ∙ sym (has-set_where b.points (may_go b s u) p)))
  where
    both : (x y z : Bool) → ((x && y) && (x && z)) ≡ (x && (z && y))
    both false y z = refl
    both true true true = refl
    both true true false = refl
    both true false true = refl
    both true false false = refl

pub reach-has : (b : Shape) (s : Sides) (u v : ℕ) → v < b.points → has (reach b s u) v ≡ may_go b s u v
unfolding reach
reach-has b s u v low = has-set_where b.points (may_go b s u) v ∙ ap (λ x. x && may_go b s u v) (lt-ltb v b.points low)

-- the test of one point
pub may_go-not : (b : Shape) (s : Sides) (u v : ℕ) → is_vacant s v ≡ false → may_go b s u v ≡ false
unfolding may_go
may_go-not b s u v none = rw none refl

pub may_go-vacant : (b : Shape) (s : Sides) (u v : ℕ) → is_vacant s v ≡ true → may_go b s u v ≡ goes b (count_of s.own) u v
unfolding may_go
may_go-vacant b s u v vacant = rw vacant refl

pub reach-lt : (b : Shape) (n : ℕ) → b.points ≡ n → (s : Sides) (u r : ℕ) → r ≡ reach b s u → r < 2 ^ n
unfolding reach
reach-lt b n e s u r f = rw (f, ← e) (set_where-lt b.points (may_go b s u))

-- ---- the stones that stand in none of some mills

abbrev pub IsFree : List ℕ → ℕ → ℕ → Type 0
IsFree mills other free = (p : ℕ) → has free p ≡ (has other p && not (list_any (λ m. has m p && is_subset m other) mills))

pub free-all : (b : Shape) (other free : ℕ) → other < 2 ^ b.points → IsFree (mills_of b) other free → free ≡ free_stones b other
unfolding free_stones in_mill
free-all b other free small each = same_points free (free_stones b other) (λ p.
    each p ∙ (within (ltb p b.points) (has other p) _ (λ h. elim (cases_lt p b.points) [
      | inl low ↦ absurd (both_ways _ h (lt-ltb p b.points low))
      | inr high ↦ has-above other b.points p small high
    ]) ∙ sym (has-set_where b.points (λ t. has other t && not (in_mill b other t)) p)))
  where
    within : (x y z : Bool) → (x ≡ false → y ≡ false) → (y && z) ≡ (x && (y && z))
    within true y z f = refl
    within false y z f = rw (f refl) refl
