use Rattle.std.proofs.Common.{ℕ, ◌/◌, ◌%◌, ◌∙◌, ap}
use Rattle.morris_board.proofs.RingImages.{ring_image, rings, image-buffered, image-exchanged}
use Rattle.morris_board.proofs.rings.image_by_rings.Goals as goal
use Rattle.morris_board.proofs.rings.image_by_rings.Goals.{then-symmetry-lt8, else-symmetry-lt8}

pub returns : goal.returns
returns c =
    let image = λ (places : ℕ). ring_image (c.args.symmetry % 8) places in
    c.from_mask.ensures ∙ elim c.if-symmetry-lt8.branch [
      | then-symmetry-lt8 w ↦
          ap (λ two. rings two.0 (image (c.mask-mask.result / 256 % 256)) two.1) w.first-is
          ∙ ap (λ m. rings (image (m % 256)) (image (m / 256 % 256)) (image (m / 65536))) c.mask-mask.ensures
          ∙ image-buffered c.args.symmetry c.args.set c.requires.within w.if-symmetry-lt8.true
      | else-symmetry-lt8 w ↦
          ap (λ two. rings two.0 (image (c.mask-mask.result / 256 % 256)) two.1) w.first-is
          ∙ ap (λ m. rings (image (m / 65536)) (image (m / 256 % 256)) (image (m % 256))) c.mask-mask.ensures
          ∙ image-exchanged c.args.symmetry c.args.set c.requires.within w.if-symmetry-lt8.false c.requires.symmetry
    ]
