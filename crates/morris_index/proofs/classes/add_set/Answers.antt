-- The set is a representative, or the class of its representative is in the table already.
use Rattle.std.proofs.Common.{◌≡◌, ◌<◌, ◌∙◌, length, get_or, sym, ap, arith}
use Rattle.morris_index.specs.Classes.{classes_in, canonicalizing_in, AreCanonicalizing, representative_of}
use Rattle.morris_index.proofs.BinomialTable.{choose_small}
use Rattle.morris_index.proofs.IndexLaws.{within_24}
use Rattle.morris_index.proofs.OrderLaws.{rank_at}
use Rattle.morris_index.proofs.KeepLaws.{table-new, table-other, other_rank, other_within, other_ranked, rank_lt, class_in}
use Rattle.std.proofs.lemmas.List.{map-append, length-map}
use Rattle.morris_index.specs.declared.classes.SetClass.{SetClass}
use Rattle.morris_index.proofs.classes.add_set.Goals as goal
use Rattle.morris_index.proofs.classes.add_set.Goals.{then-mask+in_ok-push, else-mask}

pub overflow_cast-next : goal.overflow_cast-next
overflow_cast-next g c =
    let low = rank_lt g.B.Geometry.POINTS c.args.count (omega (arith, g.met.B.Geometry.few)) c.args.set c.requires.ranked.within c.requires.ranked.counted in
    let most = choose_small g.B.Geometry.POINTS c.args.count (omega (arith, g.met.B.Geometry.few)) (omega (arith, c.requires.few)) in
    omega (arith, low, most, c.requires.ranked.ranked, c.requires.before.few, c.len-next.ensures)

pub rank-requires-clause-board : goal.rank-requires-clause-board
rank-requires-clause-board g c =
    rw c.least_image-least.ensures.image
    (within_24 _ g.B.Geometry.POINTS (other_within g.B.Geometry.shape g.B.Geometry.POINTS c.args.count (omega (arith, g.met.B.Geometry.few)) g.met.B.Geometry.point_count g.met.B.Geometry.has_symmetries
    c.args.rank c.args.set c.requires.ranked (classes_in c.args.table.now.set_classes.items) (canonicalizing_in c.args.table.now.set_classes.items) c.args.table.now.representatives.items c.requires.before) (omega (arith, g.met.B.Geometry.few)))

pub rank-requires-clause-few : goal.rank-requires-clause-few
rank-requires-clause-few g c =
    rw c.least_image-least.ensures.image
    (omega (
      arith,
      c.requires.few,
      (other_ranked g.B.Geometry.shape g.B.Geometry.POINTS c.args.count (omega (arith, g.met.B.Geometry.few)) g.met.B.Geometry.point_count g.met.B.Geometry.has_symmetries
          c.args.rank c.args.set c.requires.ranked (classes_in c.args.table.now.set_classes.items) (canonicalizing_in c.args.table.now.set_classes.items) c.args.table.now.representatives.items c.requires.before).counted,
    ))

pub index-requires : goal.index-requires
index-requires g c =
    let differ : representative_of g.B.Geometry.shape c.args.set ≡ c.args.set → ⊥ =
    λ e. c.if-mask.false (c.mask.ensures ∙ c.least_image-least.ensures.image ∙ e ∙ sym c.mask-2.ensures) in
    let low = other_rank g.B.Geometry.shape g.B.Geometry.POINTS c.args.count (omega (arith, g.met.B.Geometry.few)) g.met.B.Geometry.point_count g.met.B.Geometry.has_symmetries c.args.rank c.args.set c.requires.ranked (classes_in c.args.table.now.set_classes.items) (canonicalizing_in c.args.table.now.set_classes.items) c.args.table.now.representatives.items c.requires.before differ in
    let at : c.rank.result ≡ rank_at (representative_of g.B.Geometry.shape c.args.set) = c.rank.ensures.value ∙ ap rank_at c.least_image-least.ensures.image in
    omega (arith, low, at, c.requires.before.classes_len, length-map c.args.table.now.set_classes.items (λ (set_class : SetClass). set_class.class))

pub returns : goal.returns
returns g c =
    let ways : AreCanonicalizing g.B.Geometry.shape c.args.set c.mask-3.result = rw c.mask-3.ensures c.least_image-least.ensures.canonicalizing in
    elim c.if-mask.branch [
      | then-mask+in_ok-push w ↦
          let own : representative_of g.B.Geometry.shape c.args.set ≡ c.args.set =
          sym c.least_image-least.ensures.image ∙ sym c.mask.ensures ∙ w.if-mask.true ∙ c.mask-2.ensures in
          let next : w.len-next.result ≡ length c.args.table.now.representatives.items = omega (arith, w.len-next.ensures) in
          rw (
            c.in_ok-push-2.ensures.items,
            w.table-is,
            w.class-is,
            next,
            w.in_ok-push.ensures.items,
            w.of.ensures,
            map-append (λ (set_class : SetClass). set_class.class) c.args.table.now.set_classes.items,
            map-append (λ (set_class : SetClass). set_class.canonicalizing) c.args.table.now.set_classes.items,
          )
          (table-new g.B.Geometry.shape g.B.Geometry.POINTS c.args.count (omega (arith, g.met.B.Geometry.few)) g.met.B.Geometry.point_count g.met.B.Geometry.has_symmetries c.args.rank c.args.set c.requires.ranked (classes_in c.args.table.now.set_classes.items) (canonicalizing_in c.args.table.now.set_classes.items) c.args.table.now.representatives.items c.requires.before c.mask-3.result ways own)
      | else-mask w ↦
          let differ : representative_of g.B.Geometry.shape c.args.set ≡ c.args.set → ⊥ =
          λ e. w.if-mask.false (c.mask.ensures ∙ c.least_image-least.ensures.image ∙ e ∙ sym c.mask-2.ensures) in
          let low = other_rank g.B.Geometry.shape g.B.Geometry.POINTS c.args.count (omega (arith, g.met.B.Geometry.few)) g.met.B.Geometry.point_count g.met.B.Geometry.has_symmetries c.args.rank c.args.set c.requires.ranked (classes_in c.args.table.now.set_classes.items) (canonicalizing_in c.args.table.now.set_classes.items) c.args.table.now.representatives.items c.requires.before differ in
          let at : w.rank.result ≡ rank_at (representative_of g.B.Geometry.shape c.args.set) = w.rank.ensures.value ∙ ap rank_at c.least_image-least.ensures.image in
          let under : w.rank.result < length c.args.table.now.set_classes.items =
          omega (arith, low, at, c.requires.before.classes_len, length-map c.args.table.now.set_classes.items (λ (set_class : SetClass). set_class.class)) in
          let class : w.index.result.now.class ≡ get_or (classes_in c.args.table.now.set_classes.items) (rank_at (representative_of g.B.Geometry.shape c.args.set)) 0 =
          class_in c.args.table.now.set_classes.items w.rank.result w.index.result.now under w.index.ensures ∙ ap (λ r. get_or (classes_in c.args.table.now.set_classes.items) r 0) at in
          rw (
            c.in_ok-push-2.ensures.items,
            w.table-is,
            w.class-is,
            class,
            map-append (λ (set_class : SetClass). set_class.class) c.args.table.now.set_classes.items,
            map-append (λ (set_class : SetClass). set_class.canonicalizing) c.args.table.now.set_classes.items,
          )
          (table-other g.B.Geometry.shape g.B.Geometry.POINTS c.args.count (omega (arith, g.met.B.Geometry.few)) g.met.B.Geometry.point_count g.met.B.Geometry.has_symmetries c.args.rank c.args.set c.requires.ranked (classes_in c.args.table.now.set_classes.items) (canonicalizing_in c.args.table.now.set_classes.items) c.args.table.now.representatives.items c.requires.before c.mask-3.result ways differ)
    ]
