use Rattle.std.proofs.Common.{refl, sym, ◌∙◌, [], ◌∷◌, is_some, not, is_none}
use Rattle.cell_world.specs.Keys.{same}
use Rattle.cell_world.specs.Jobs.{ends_at}
use Rattle.cell_world.specs.Orders.{pair_cmp}
use Rattle.cell_world.specs.declared.cells.Status.TheVariants.{Online, Offline}
use Rattle.cell_world.specs.declared.spans.High.TheVariants.{At}
use Rattle.world_examples.specs.Examples.{int_key, map_m, site_a, site_b, free_piece, job_piece, keyed_pieces}
use Rattle.world_examples.proofs.Tables.{get_of}
use Rattle.world_examples.proofs.Refusing.{differ, is_online, shows}
use Rattle.world_examples.proofs.lawful.refused_where_an_old_does_not_stand.Goals as goal

pub returns-clause-nothing : goal.returns-clause-nothing
returns-clause-nothing c h = differ (is_some) _ _ (sym h.olds_stand.0 ∙ get_of pair_cmp (keyed_pieces []) tt (map_m, int_key 0)) refl refl

pub returns-clause-status : goal.returns-clause-status
returns-clause-status c h = differ (shows (λ p. not (is_online p.status))) _ _ (sym h.olds_stand.0 ∙ get_of pair_cmp (keyed_pieces (free_piece 0 5 site_a Online ∷ [])) tt (map_m, int_key 0)) refl refl

pub returns-clause-location : goal.returns-clause-location
returns-clause-location c h = differ (shows (λ p. same p.location site_a)) _ _ (sym h.olds_stand.0 ∙ get_of pair_cmp (keyed_pieces (free_piece 0 5 site_b Offline ∷ [])) tt (map_m, int_key 0)) refl refl

pub returns-clause-end : goal.returns-clause-end
returns-clause-end c h = differ (shows (λ p. ends_at (At (int_key 5)) p.span)) _ _ (sym h.olds_stand.0 ∙ get_of pair_cmp (keyed_pieces (free_piece 0 6 site_a Offline ∷ [])) tt (map_m, int_key 0)) refl refl

pub returns-clause-token : goal.returns-clause-token
returns-clause-token c h = differ (shows (λ p. is_none p.token)) _ _ (sym h.olds_stand.0 ∙ get_of pair_cmp (keyed_pieces (job_piece 0 5 site_a Offline ∷ [])) tt (map_m, int_key 0)) refl refl
