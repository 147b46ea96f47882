use Rattle.history_laws.specs.Purposes.{Serves}
use Rattle.history_laws.proofs.PutLaws.{put_now, put_happened, put_entered, put_later}
use Rattle.history_laws.proofs.tries.puts_stay.Goals as goal

pub returns-clause-now : goal.returns-clause-now
returns-clause-now c = λ start session purpose past place change op puts here. put_now start session (Serves purpose) past place change op puts here

pub returns-clause-happened : goal.returns-clause-happened
returns-clause-happened c = λ start session purpose past h was. put_happened start session (Serves purpose) past h was

pub returns-clause-entered : goal.returns-clause-entered
returns-clause-entered c = λ start session purpose past e other was. put_entered start session (Serves purpose) past e other was

pub returns-clause-later : goal.returns-clause-later
returns-clause-later c = λ start session purpose later past others was. put_later start session (Serves purpose) later past others was
