use Rattle.std.proofs.Common.{refl, sym, subst}
use Rattle.std.specs.List.{All}
use Rattle.morris_pairs.specs.CaptureCaches.{IsCached}
use Rattle.morris_pairs.proofs.KeptLaws.{none_kept}
use Rattle.morris_pairs.proofs.capture_cache.CaptureCache.new.Goals as goal

pub returns-in-Ok : goal.returns-in-Ok
returns-in-Ok c = λ codes. subst (λ slots. All (IsCached codes) slots) (sym (c.in-Ok.ensures.items_if_clones_equal (λ y is. is))) (none_kept codes 4096 _ refl)
