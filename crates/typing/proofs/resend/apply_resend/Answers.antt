-- 25 or 26 as the search for the target answers.
use Rattle.typing.proofs.Bodies.{applied_untargeted}
use Rattle.typing.proofs.resend.apply_resend.Goals as goal

pub returns-in-Err : goal.returns-in-Err
returns-in-Err c = applied_untargeted _ _ _ c.in-Err.failed c.resend_number.result c.resend_number.ensures c.in-Err.ensures
