use Rattle.image_laws.proofs.AddCommits.{add_commits}
use Rattle.image_laws.proofs.meanings.meaning_of_an_add.Goals as goal

pub returns : goal.returns
returns c = add_commits
