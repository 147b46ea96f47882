use Rattle.history_laws.proofs.tries.entries_have_purposes.Goals as goal

pub returns-clause-planned : goal.returns-clause-planned
returns-clause-planned c = λ start past A B e job op made. made.planned

pub returns-clause-own : goal.returns-clause-own
returns-clause-own c = λ start past A e. ((λ h. h), (λ h. h))

pub returns-clause-offlines : goal.returns-clause-offlines
returns-clause-offlines c = λ start past A B e p. ((λ h. h), (λ h. h))
