use Rattle.history_laws.specs.Purposes.{Serves}
use Rattle.history_laws.proofs.PutLaws.{put_wider, put_tried}
use Rattle.history_laws.proofs.TriedLaws.{tried_wider, tried_some}
use Rattle.history_laws.proofs.tries.tries_serve.Goals as goal

pub returns-clause-put : goal.returns-clause-put
returns-clause-put c = λ start session purpose past was. put_tried start session (Serves purpose) past was

pub returns-clause-put_wider : goal.returns-clause-put_wider
returns-clause-put_wider c = λ start session few many past wider was. put_wider start session (Serves few) (Serves many) past wider was

pub returns-clause-wider : goal.returns-clause-wider
returns-clause-wider c = λ start session few many past wider was. tried_wider start session (Serves few) (Serves many) past wider was

pub returns-clause-some : goal.returns-clause-some
returns-clause-some c = λ start session purpose past was. tried_some start session (Serves purpose) past was
