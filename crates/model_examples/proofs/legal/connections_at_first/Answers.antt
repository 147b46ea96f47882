use Rattle.std.proofs.Common.{◌≡◌, arith, refl, sym, ap, ◌∙◌, ◌∷◌, []}
use Rattle.cell_world.specs.Plain.{Connections}
use Rattle.plain_model.specs.declared.replies.Reply.TheVariants as reply
use Rattle.plain_model.specs.declared.replies.Refusal.TheVariants as refused
use Rattle.plain_model.specs.ByMoments.{standing}
use Rattle.model_examples.specs.Values.{trail_of, nothing_going, closing}
use Rattle.plain_model.proofs.LegalAtMoments.{legal_by_moments}
use Rattle.model_examples.proofs.LegalRuns.{one_refusal}
use Rattle.model_examples.proofs.Closing.{not_open}
use Rattle.model_examples.proofs.legal.connections_at_first.Goals as goal

pub returns-clause-none : goal.returns-clause-none
returns-clause-none c = legal_by_moments (trail_of []) 0 nothing_going (closing 0 ∷ []) (omega arith) one_refusal

pub returns-clause-never_one : goal.returns-clause-never_one
returns-clause-never_one c legal =
    let f = (legal.follows 0 _ refl).follows in
    let e : reply.Refused refused.NoConnection ≡ reply.Ok = ap (λ r. r.1) (sym (not_open f.held (standing (trail_of []) 0 (legal.connections 0)) (ap (λ (connections : Connections). connections 1 1) legal.at_first)) ∙ f.step) in cc
