-- The iterator goes through the members of the set, and each adds its image.
use Rattle.std.proofs.Common.{◌≡◌, ℕ, ◌<◌, ◌^◌, List, [], ◌∷◌, ◌++◌, length, map, get_or, refl, sym, ap, ◌∙◌, append_assoc, append-nil}
use Rattle.std.proofs.lemmas.List.{map-append}
use Rattle.morris_board.specs.Sets.{members, set_of, with_point}
use Rattle.morris_board.specs.Symmetries.{image_of}
use Rattle.morris_board.proofs.ImageTables.{set_of-more, member_lt}
use Rattle.morris_board.proofs.symmetries.image_by.Goals as goal

-- where the points are cut
module _ (set point : ℕ) (before after left : List ℕ) (split : before ++ left ≡ members set) (step : left ≡ point ∷ after) where
  cut : before ++ point ∷ after ≡ members set
  cut = ap (λ t. before ++ t) (sym step) ∙ split

  small : (n : ℕ) → set < 2 ^ n → point < n
  small n h = member_lt set n point before after h cut

  split_after : (before ++ point ∷ []) ++ after ≡ members set
  split_after = append_assoc before (point ∷ []) after ∙ cut

more : (f : ℕ → ℕ) (image point : ℕ) (before : List ℕ) → image ≡ set_of (map f before) → with_point image (f point) ≡ set_of (map f (before ++ point ∷ []))
more f image point before e =
    ap (λ s. with_point s (f point)) e ∙ sym (set_of-more (map f before) (f point)) ∙ ap set_of (sym (map-append f before (point ∷ [])))

whole : (f : ℕ → ℕ) (image set : ℕ) (before left : List ℕ) → before ++ left ≡ members set → left ≡ [] → image ≡ set_of (map f before) → image ≡ image_of f set
unfolding image_of
whole f image set before left split none e =
    e ∙ ap (λ t. set_of (map f t)) (sym (append-nil before) ∙ ap (λ t. before ++ t) (sym none) ∙ split)

pub loop-point-init : goal.loop-point-init
unfolding set_of
loop-point-init c = record {
  split = ap members (c.into_iter-point-iterator.ensures.into_iter_gives ∙ c.iter-point-items.ensures.points);
  image = refl;
}

pub bounds-images-point : goal.bounds-images-point
bounds-images-point c =
    small c.args.set c.in-Some.point c.loop-point.yielded _ _ c.loop-point.invariant.split c.in-Some.ensures.steps (length c.args.images.now) c.requires.within

pub loop-point-preserved : goal.loop-point-preserved
loop-point-preserved c = record {
  split = split_after c.args.set c.in-Some.point c.loop-point.yielded _ _ c.loop-point.invariant.split c.in-Some.ensures.steps;
  image = c.with-image.ensures ∙ more (λ p. get_or c.args.images.now p 0) c.loop-point.image c.in-Some.point c.loop-point.yielded c.loop-point.invariant.image;
}

pub returns : goal.returns
returns c =
    whole (λ p. get_or c.args.images.now p 0) c.loop-point.image c.args.set c.loop-point.yielded _ c.loop-point.invariant.split c.in-None.ensures.steps.0
    c.loop-point.invariant.image
