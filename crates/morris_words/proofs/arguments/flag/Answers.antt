use Rattle.clap.specs.Words.{found_of}
use Rattle.morris_words.proofs.ReadLaws.{flag_read}
use Rattle.morris_words.proofs.arguments.flag.Goals as goal

pub returns : goal.returns
returns c =
    flag_read (found_of c.args.found.now) c.args.name.now c.requires.0 c.get_flag.result c.requires.1 c.get_flag.ensures.value c.get_flag.ensures.other
