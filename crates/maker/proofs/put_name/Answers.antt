-- The text before the number, then the number with the text after it.
use Rattle.maker.proofs.PutLaws.{name_put}
use Rattle.maker.proofs.put_name.Goals as goal

pub returns : goal.returns
returns c =
    name_put c.copy_at.ensures c.put_field.ensures c.requires.0 c.requires.1
