-- `readwindow::age` meets its contract: the wrapping difference is the difference modulo 2^32.
-- Assumes nothing.
use Rattle.std.proofs.Common.{refl}
use Rattle.model.specs.ReadLog.{age}
use Rattle.readwindow.proofs.age.Goals as goal

pub returns : goal.returns
unfolding age
returns c = refl
