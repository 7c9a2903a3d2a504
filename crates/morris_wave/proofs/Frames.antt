-- Entries that stay as they are while some get their codes.
use Rattle.std.proofs.Common.{◌≡◌, ℕ, take, refl, subst, ◌∙◌}
use Rattle.morris_wave.specs.Frames.{SameFrame}
use Rattle.morris_wave.specs.declared.node_list.NodeList.{Ghosts}
use Rattle.morris_wave.specs.declared.listed.Listed.{Listed}

pub frame_same : {L : Type 0} {kind : Ghosts L} (e : Listed L kind) → SameFrame e e
frame_same e = record { len = refl; first = refl; wave = refl; before = refl; here = refl; list = refl }

pub frame_joins : {L : Type 0} {kind : Ghosts L} (old mid new : Listed L kind) → SameFrame old mid → SameFrame mid new → SameFrame old new
frame_joins {L} {kind} old mid new a b = record {
  len = b.len ∙ a.len;
  first = b.first ∙ a.first;
  wave = b.wave ∙ a.wave;
  before = b.before ∙ a.before;
  here = b.here ∙ a.here;
  list = subst (λ (n : ℕ). take n (kind.items new.decided) ≡ take n (kind.items mid.decided)) a.here b.list ∙ a.list;
}
