use Rattle.std.proofs.Common.{refl}
use Rattle.std.specs.Fmt.{digits}
use Rattle.cell_world.specs.KeyPrinting.{key_text}
use Rattle.plain_model.specs.Lines.{lines_of, refusal_text}
use Rattle.plain_model.proofs.laws.worked_lines.Goals as goal

pub returns-clause-done : goal.returns-clause-done
unfolding digits key_text lines_of refusal_text
returns-clause-done c = refl

pub returns-clause-tagged : goal.returns-clause-tagged
unfolding digits key_text lines_of refusal_text
returns-clause-tagged c = refl

pub returns-clause-mapping : goal.returns-clause-mapping
unfolding digits key_text lines_of refusal_text
returns-clause-mapping c = refl

pub returns-clause-locked : goal.returns-clause-locked
unfolding digits key_text lines_of refusal_text
returns-clause-locked c = refl

pub returns-clause-job_token : goal.returns-clause-job_token
unfolding digits key_text lines_of refusal_text
returns-clause-job_token c = refl

pub returns-clause-unbounded : goal.returns-clause-unbounded
unfolding digits key_text lines_of refusal_text
returns-clause-unbounded c = refl

pub returns-clause-point : goal.returns-clause-point
unfolding digits key_text lines_of refusal_text
returns-clause-point c = refl

pub returns-clause-mappings : goal.returns-clause-mappings
unfolding digits key_text lines_of refusal_text
returns-clause-mappings c = refl

pub returns-clause-shards : goal.returns-clause-shards
unfolding digits key_text lines_of refusal_text
returns-clause-shards c = refl

pub returns-clause-at : goal.returns-clause-at
unfolding digits key_text lines_of refusal_text
returns-clause-at c = refl

pub returns-clause-row : goal.returns-clause-row
unfolding digits key_text lines_of refusal_text
returns-clause-row c = refl

pub returns-clause-known : goal.returns-clause-known
unfolding digits key_text lines_of refusal_text
returns-clause-known c = refl

pub returns-clause-known_point : goal.returns-clause-known_point
unfolding digits key_text lines_of refusal_text
returns-clause-known_point c = refl

pub returns-clause-differences : goal.returns-clause-differences
unfolding digits key_text lines_of refusal_text
returns-clause-differences c = refl

pub returns-clause-discarded : goal.returns-clause-discarded
unfolding digits key_text lines_of refusal_text
returns-clause-discarded c = refl

pub returns-clause-cursor : goal.returns-clause-cursor
unfolding digits key_text lines_of refusal_text
returns-clause-cursor c = refl

pub returns-clause-left : goal.returns-clause-left
unfolding digits key_text lines_of refusal_text
returns-clause-left c = refl

pub returns-clause-pending : goal.returns-clause-pending
unfolding digits key_text lines_of refusal_text
returns-clause-pending c = refl
