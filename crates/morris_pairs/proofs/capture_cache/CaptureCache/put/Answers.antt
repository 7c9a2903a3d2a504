use Rattle.std.proofs.lemmas.List.Elements.{All-set}
use Rattle.morris_pairs.specs.CaptureCaches.{IsCached}
use Rattle.morris_pairs.proofs.capture_cache.CaptureCache.put.Goals as goal

pub returns-in-Some : goal.returns-in-Some
returns-in-Some c = λ codes cache is.
    All-set (IsCached codes) c.args.self.now.slots.items c.slot_of.result (record { before = c.args.before; after = c.args.after; results = c.args.results }) (λ _. is) cache
