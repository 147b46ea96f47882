-- What a live operation needs at a stage is what the steps carry at it.
use Rattle.std.proofs.Common.{◌≡◌, ⊎_elim, refl, subst, inl, inr, List, [], ◌∷◌, ◌++◌}
use Rattle.std.specs.Prelude.{option_to_list}
use Rattle.cell_world.specs.Texts.{Text}
use Rattle.cell_world.specs.Lists.{IsOneOf}
use Rattle.cell_world.specs.Spelled.{listed}
use Rattle.cell_world.specs.Images.{Image}
use Rattle.cell_world.specs.Lawful.{Lawful, rows_at}
use Rattle.cell_world.specs.Operations.{locations_of}
use Rattle.cell_world.specs.UnderWay.{IsUnderWay}
use Rattle.cell_world.specs.declared.operations.Op.{Op}
use Rattle.cell_world.specs.declared.operations.Piece.{Piece}
use Rattle.cell_world.specs.declared.operations.StageName.{StageName}
use Rattle.cell_world.specs.declared.operations.StageName.TheVariants.{Logged, SourceDone, TargetDone, Committed, Settled}
use Rattle.cell_world.proofs.ListLaws.{one_of_two, in_first, in_second}
use Rattle.image_laws.proofs.Places.{location_in}
use Rattle.image_laws.proofs.UnderWayLaws.{together}
use Rattle.op_steps.specs.Advancing.{AtStage, sites_with}
use Rattle.op_steps.proofs.CommitLaws.{at_one}
use Rattle.session_laws.specs.Needs.{done_at}
use Rattle.operation_laws.specs.Forward.{IsForward}

-- only which sites they are counts
under_way_at : (image : Image) (op : Op) (sites others : List Text) → ((x : Text) → IsOneOf sites x → IsOneOf others x) → ((x : Text) → IsOneOf others x → IsOneOf sites x) → IsUnderWay image op sites → IsUnderWay image op others
under_way_at image op sites others there back w = record { logged = w.logged; done = λ l among. w.done l (back l among); unborn = λ l here out. w.unborn l here (λ among. out (there l among)) }

-- the site of some mapping
piece_at : (ps : List Piece) (l : Text) → IsOneOf (locations_of ps) l → (p : Piece) × IsOneOf ps p × (p.location ≡ l)
piece_at [] l h = absurd h
piece_at (p ∷ ps) l (inl e) = (p, inl refl, e)
piece_at (p ∷ ps) l (inr h) = let r = piece_at ps l h in (r.0, inr r.1, r.2)

-- the sites of two lists
both_sites : (a b c d : List Text) → ((x : Text) → IsOneOf a x → IsOneOf c x) → ((x : Text) → IsOneOf b x → IsOneOf d x) → (x : Text) → IsOneOf (a ++ b) x → IsOneOf (d ++ c) x
both_sites a b c d f g x h = ⊎_elim (λ m. in_second d c x (f x m)) (λ m. in_first d c x (g x m)) (one_of_two a b x h)

module _ (image : Image) (op : Op) (law : Lawful image op) where
  -- the sites of the olds are that of the first one
  first_old : (x : Text) → IsOneOf (locations_of (option_to_list op.olds.one)) x → IsOneOf (locations_of (listed op.olds)) x
  first_old x h = let r = piece_at (option_to_list op.olds.one) x h in
      subst (IsOneOf (locations_of (listed op.olds))) r.2 (location_in (listed op.olds) r.0 (in_first (option_to_list op.olds.one) (option_to_list op.olds.two) r.0 r.1))

  any_old : (x : Text) → IsOneOf (locations_of (listed op.olds)) x → IsOneOf (locations_of (option_to_list op.olds.one)) x
  any_old x h = let r = piece_at (listed op.olds) x h in
      subst (IsOneOf (locations_of (option_to_list op.olds.one))) r.2 (at_one op.olds.one op.olds.two law.olds_in_order (together (rows_at image) (listed op.olds) (listed op.news) law.shape).0 r.0 r.1)

  -- and so are those of the news
  first_new : (x : Text) → IsOneOf (locations_of (option_to_list op.news.one)) x → IsOneOf (locations_of (listed op.news)) x
  first_new x h = let r = piece_at (option_to_list op.news.one) x h in
      subst (IsOneOf (locations_of (listed op.news))) r.2 (location_in (listed op.news) r.0 (in_first (option_to_list op.news.one) (option_to_list op.news.two) r.0 r.1))

  any_new : (x : Text) → IsOneOf (locations_of (listed op.news)) x → IsOneOf (locations_of (option_to_list op.news.one)) x
  any_new x h = let r = piece_at (listed op.news) x h in
      subst (IsOneOf (locations_of (option_to_list op.news.one))) r.2 (at_one op.news.one op.news.two law.news_in_order (together (rows_at image) (listed op.olds) (listed op.news) law.shape).1 r.0 r.1)

  pub at_stage : (name : StageName) → IsForward name → IsUnderWay image op (done_at op name) → AtStage op name image
  at_stage Logged f w = w
  at_stage SourceDone f w = under_way_at image op _ _ any_old first_old w
  at_stage TargetDone f w = under_way_at image op _ (sites_with op.news.one op.olds.one) (both_sites _ _ _ _ any_old any_new) (both_sites _ _ _ _ first_new first_old) w
  at_stage Committed f w = absurd f
  at_stage Settled f w = absurd f

  pub needs_at : (name : StageName) → IsForward name → AtStage op name image → IsUnderWay image op (done_at op name)
  needs_at Logged f w = w
  needs_at SourceDone f w = under_way_at image op _ _ first_old any_old w
  needs_at TargetDone f w = under_way_at image op (sites_with op.news.one op.olds.one) _ (both_sites _ _ _ _ first_new first_old) (both_sites _ _ _ _ any_old any_new) w
  needs_at Committed f w = absurd f
  needs_at Settled f w = absurd f
