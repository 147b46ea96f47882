use Rattle.image_laws.proofs.TokenImages.{put_token_sound, put_token_meaning}
use Rattle.image_laws.proofs.commits.token_keeps_sound.Goals as goal

pub returns-clause-sound : goal.returns-clause-sound
returns-clause-sound c = put_token_sound

pub returns-clause-meaning : goal.returns-clause-meaning
returns-clause-meaning c = put_token_meaning
