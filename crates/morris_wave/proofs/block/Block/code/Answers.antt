use Rattle.morris_wave.specs.Blocks.{IsIn}
use Rattle.morris_wave.proofs.Settled.{code_value, code_exact, code_open}
use Rattle.morris_wave.proofs.block.Block.code.Goals as goal

pub returns : goal.returns
returns g c =
    let law = g.N.Levels.lawful c.self.inside.level in
    let within : IsIn c.self.inside.cut c.self.inside.number c.args.i = rw (← c.self.view_is) at c.requires in
    rw (← c.self.view_is) (record {
      value = code_value law c.self.invariant c.args.i within c.get.result c.get.ensures;
      exact = λ some. code_exact law c.self.invariant c.args.i within c.get.result c.get.ensures some;
      undecided = code_open law c.self.invariant c.args.i within c.get.result c.get.ensures;
    })
