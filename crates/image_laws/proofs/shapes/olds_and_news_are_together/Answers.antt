use Rattle.cell_world.specs.Spelled.{listed}
use Rattle.image_laws.proofs.UnderWayLaws.{together}
use Rattle.image_laws.proofs.shapes.olds_and_news_are_together.Goals as goal

pub returns-clause-olds : goal.returns-clause-olds
returns-clause-olds c t op law = (together t.rows_at (listed op.olds) (listed op.news) law.shape).0.one

pub returns-clause-news : goal.returns-clause-news
returns-clause-news c t op law = (together t.rows_at (listed op.olds) (listed op.news) law.shape).1.one
