use Rattle.std.proofs.Common.{inl, inr}
use Rattle.cell_world.specs.Spelled.{listed}
use Rattle.cell_world.proofs.ListLaws.{one_of_two}
use Rattle.image_laws.proofs.FitLaws.{fit_of_lawful}
use Rattle.image_laws.proofs.shapes.hulls_hold_olds_and_news.Goals as goal

pub returns : goal.returns
returns c t m op law p among key inside = elim (one_of_two (listed op.olds) (listed op.news) p among) [
  | inl old ↦ (fit_of_lawful t m op law).shaped.old_in p old key inside
  | inr new ↦ (fit_of_lawful t m op law).shaped.new_in p new key inside
]
