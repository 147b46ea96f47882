-- What the words of `add` and `addpoint` come to, by the kind and the key type of their map.
use Rattle.std.proofs.Common.{◌≡◌, ℕ, Bool, true, false, cond, not, List, [], ◌∷◌, ◌++◌, Option, Some, None, is_some, option_map, refl, sym, ap, ◌∙◌, subst}
use Rattle.std.specs.Prelude.{Result, Ok, Err, IfOk, IsTrue, option_and_then}
use Rattle.std.specs.FinMap as map
use Rattle.cell_world.specs.Texts.{Text}
use Rattle.cell_world.specs.Images.{Image, global}
use Rattle.cell_world.specs.Keys.{before}
use Rattle.cell_world.specs.KeyForms.{normal_of, is_span_of}
use Rattle.cell_world.specs.Plain.{PlainState, Connections}
use Rattle.cell_world.specs.Outside.{Told, IfContents}
use Rattle.cell_world.specs.Stores.{Store}
use Rattle.cell_world.specs.declared.cells.KeyType.{KeyType}
use Rattle.cell_world.specs.declared.cells.MapKind.{MapKind}
use Rattle.cell_world.specs.declared.cells.MapKind.TheVariants as kind
use Rattle.cell_world.specs.declared.spans.High.{High}
use Rattle.cell_world.specs.declared.spans.High.TheVariants as high
use Rattle.cell_world.specs.declared.spans.Span.{Span}
use Rattle.cell_world.specs.declared.spans.Span.TheVariants.{Range, Point}
use Rattle.cell_world.proofs.ContentsLaws.{contents_all, contents_weaker}
use Rattle.global_tables.specs.Known.{Known, known_of}
use Rattle.plain_model.specs.declared.commands.Command.{Command}
use Rattle.plain_model.specs.declared.commands.Command.TheVariants as command
use Rattle.plain_model.specs.declared.commands.HighText.{HighText}
use Rattle.plain_model.specs.declared.commands.HighText.TheVariants as word
use Rattle.plain_model.specs.declared.plans.Plan.{Plan}
use Rattle.plain_model.specs.declared.plans.PlanStop.{PlanStop}
use Rattle.plain_model.specs.declared.plans.PlanStop.TheVariants as stop
use Rattle.plain_model.specs.declared.replies.Refusal.{Refusal}
use Rattle.plain_model.specs.declared.replies.Refusal.TheVariants as refused
use Rattle.plain_model.specs.Refusing.{Check, if_there, same_kind, first_refusal, refusal, bad_key, bad_range, overlap, range_between, range_in, key_in, high_in}
use Rattle.plain_model.specs.Steps.{added}
use Rattle.plain_model.specs.ShortCommands.{standing_with}
use Rattle.map_ops.specs.Adding.{end_in, range_by, point_by, site_checks, new_checks, ReadsSpan, PlansNew}
use Rattle.map_ops.specs.Planning.{RefusesOf, PlansWith}

-- the map as the copy of the tables has it
abbrev Found : Type 0
Found = Option (MapKind × KeyType)

-- a map that was found, of this kind
pub of_kind : (m : Found) (k wanted : MapKind) (t : KeyType) → m ≡ Some (k, t) → k ≡ wanted → m ≡ Some (wanted, t)
of_kind m k wanted t is kind_is = is ∙ ap (λ (k : MapKind). Some (k, t)) kind_is

-- ---- the checks of a map of this kind, and what comes after them

abbrev kind_checks : MapKind → Found → List Check → List Check
kind_checks wanted m more = (not (is_some m), refused.NoMap) ∷ (if_there (λ (k : MapKind). not (same_kind wanted k)) (option_map (λ (m : MapKind × KeyType). m.0) m), refused.WrongKind) ∷ more

module _ (known : Known) (name : Text) (m : Found) (by_copy : (s : Store) → known ≡ known_of s → m ≡ map.get s.maps name) where
  -- the key that a word is, where the map has this type
  keyed : (t : KeyType) (k : MapKind) → m ≡ Some (k, t) → (image : Image) → known ≡ known_of (global image) → (connections : Connections) (text : Text) → key_in (standing_with image connections) name text ≡ normal_of t text
  keyed t k is image copy connections text = ap (λ (o : Found). option_and_then (λ (type : KeyType). normal_of type text) (option_map (λ (m : MapKind × KeyType). m.1) o)) (sym (by_copy (global image) copy) ∙ is)

  module _ (low : Text) (end : HighText) (location : Text) where
    abbrev add : Command
    add = command.Add name low end location

    -- what is left after the kind, by key and end
    abbrev rest : PlainState → Option Text → Option High → List Check
    rest s k e = bad_key (range_between k e) ∷ bad_range k e ∷ site_checks s name location ++ overlap s name (range_between k e) ∷ []

    decided : (image : Image) → known ≡ known_of (global image) → (connections : Connections)
        → first_refusal (kind_checks kind.Range (map.get (global image).maps name) (rest (standing_with image connections) (key_in (standing_with image connections) name low) (high_in (standing_with image connections) name end)))
        ≡ first_refusal (kind_checks kind.Range m (rest (standing_with image connections) (key_in (standing_with image connections) name low) (high_in (standing_with image connections) name end)))
    decided image copy connections = ap (λ (o : Found). first_refusal (kind_checks kind.Range o (rest (standing_with image connections) (key_in (standing_with image connections) name low) (high_in (standing_with image connections) name end)))) (sym (by_copy (global image) copy))

    pub no_map_of_add : m ≡ None → RefusesOf known add (Some refused.NoMap)
    unfolding refusal
    no_map_of_add is image copy session connections = decided image copy connections
        ∙ ap (λ (o : Found). first_refusal (kind_checks kind.Range o (rest (standing_with image connections) (key_in (standing_with image connections) name low) (high_in (standing_with image connections) name end)))) is

    pub wrong_kind_of_add : (t : KeyType) → m ≡ Some (kind.List, t) → RefusesOf known add (Some refused.WrongKind)
    unfolding refusal
    wrong_kind_of_add t is image copy session connections = decided image copy connections
        ∙ ap (λ (o : Found). first_refusal (kind_checks kind.Range o (rest (standing_with image connections) (key_in (standing_with image connections) name low) (high_in (standing_with image connections) name end)))) is

    module _ (t : KeyType) (is : m ≡ Some (kind.Range, t)) where
      ended : (image : Image) → known ≡ known_of (global image) → (connections : Connections) → high_in (standing_with image connections) name end ≡ end_in t end
      ended image copy connections = by end
        where
          by : (w : HighText) → high_in (standing_with image connections) name w ≡ end_in t w
          by (word.At text) = ap (option_map high.At) (keyed t kind.Range is image copy connections text)
          by word.Max = refl

      -- by the key and the end that the words are
      module _ (k : Option Text) (e : Option High) (k_is : normal_of t low ≡ k) (e_is : end_in t end ≡ e) where
        read : (image : Image) → known ≡ known_of (global image) → (session : ℕ) (connections : Connections) → refusal (standing_with image connections) session add ≡ first_refusal (rest (standing_with image connections) k e)
        unfolding refusal
        read image copy session connections = decided image copy connections
            ∙ (λ i. first_refusal (kind_checks kind.Range (is i) (rest (standing_with image connections) ((keyed t kind.Range is image copy connections low ∙ k_is) i) ((ended image copy connections ∙ e_is) i))))

        ranged : (image : Image) → known ≡ known_of (global image) → (connections : Connections) → range_in (standing_with image connections) name low end ≡ range_between k e
        ranged image copy connections = λ i. range_between ((keyed t kind.Range is image copy connections low ∙ k_is) i) ((ended image copy connections ∙ e_is) i)

      reads : (k : Option Text) (e : Option High) → normal_of t low ≡ k → end_in t end ≡ e → (r : Result Span Refusal) → r ≡ range_by k e → IfOk r (λ span. IsTrue (is_span_of kind.Range t span)) → ReadsSpan known add name location r
      reads None e k_is e_is r by ok = subst (ReadsSpan known add name location) (sym by) (λ image copy session connections. read None e k_is e_is image copy session connections)
      reads (Some l) None k_is e_is r by ok = subst (ReadsSpan known add name location) (sym by) (λ image copy session connections. read (Some l) None k_is e_is image copy session connections)
      reads (Some l) (Some h) k_is e_is r by ok = ordered (before l h) refl
        where
          ordered : (b : Bool) → before l h ≡ b → ReadsSpan known add name location r
          ordered false order =
              let is_bad : r ≡ Err refused.BadRange = by ∙ ap (λ (b : Bool). cond b (Ok (Range l h)) (Err refused.BadRange)) order in
              subst (ReadsSpan known add name location) (sym is_bad) (λ image copy session connections. read (Some l) (Some h) k_is e_is image copy session connections
              ∙ ap (λ (b : Bool). first_refusal ((false, refused.BadKey) ∷ (not b, refused.BadRange) ∷ new_checks (standing_with image connections) name (Range l h) location)) order)
          ordered true order =
              let is_good : r ≡ Ok (Range l h) = by ∙ ap (λ (b : Bool). cond b (Ok (Range l h)) (Err refused.BadRange)) order in
              subst (ReadsSpan known add name location) (sym is_good) (λ image copy. record {
                of_map = (kind.Range, t, sym (by_copy (global image) copy) ∙ is, subst (λ (r : Result Span Refusal). IfOk r (λ span. IsTrue (is_span_of kind.Range t span))) is_good ok);
                decides = λ session connections. read (Some l) (Some h) k_is e_is image copy session connections
                    ∙ ap (λ (b : Bool). first_refusal ((false, refused.BadKey) ∷ (not b, refused.BadRange) ∷ new_checks (standing_with image connections) name (Range l h) location)) order;
                makes = λ connections. ap (added name location) (ranged (Some l) (Some h) k_is e_is image copy connections);
              })

      -- the range of the words
      pub range_reads : (r : Result Span Refusal) → r ≡ range_by (normal_of t low) (end_in t end) → IfOk r (λ span. IsTrue (is_span_of kind.Range t span)) → ReadsSpan known add name location r
      range_reads = reads (normal_of t low) (end_in t end) refl refl

  module _ (text location : Text) where
    abbrev addpoint : Command
    addpoint = command.Addpoint name text location

    -- what is left after the kind, by key
    abbrev rest_of_point : PlainState → Option Text → List Check
    rest_of_point s k = bad_key k ∷ site_checks s name location ++ overlap s name (option_map Point k) ∷ []

    decided_point : (image : Image) → known ≡ known_of (global image) → (connections : Connections)
        → first_refusal (kind_checks kind.List (map.get (global image).maps name) (rest_of_point (standing_with image connections) (key_in (standing_with image connections) name text)))
        ≡ first_refusal (kind_checks kind.List m (rest_of_point (standing_with image connections) (key_in (standing_with image connections) name text)))
    decided_point image copy connections = ap (λ (o : Found). first_refusal (kind_checks kind.List o (rest_of_point (standing_with image connections) (key_in (standing_with image connections) name text)))) (sym (by_copy (global image) copy))

    pub no_map_of_addpoint : m ≡ None → RefusesOf known addpoint (Some refused.NoMap)
    unfolding refusal
    no_map_of_addpoint is image copy session connections = decided_point image copy connections
        ∙ ap (λ (o : Found). first_refusal (kind_checks kind.List o (rest_of_point (standing_with image connections) (key_in (standing_with image connections) name text)))) is

    pub wrong_kind_of_addpoint : (t : KeyType) → m ≡ Some (kind.Range, t) → RefusesOf known addpoint (Some refused.WrongKind)
    unfolding refusal
    wrong_kind_of_addpoint t is image copy session connections = decided_point image copy connections
        ∙ ap (λ (o : Found). first_refusal (kind_checks kind.List o (rest_of_point (standing_with image connections) (key_in (standing_with image connections) name text)))) is

    module _ (t : KeyType) (is : m ≡ Some (kind.List, t)) where
      module _ (k : Option Text) (k_is : normal_of t text ≡ k) where
        read_point : (image : Image) → known ≡ known_of (global image) → (session : ℕ) (connections : Connections) → refusal (standing_with image connections) session addpoint ≡ first_refusal (rest_of_point (standing_with image connections) k)
        unfolding refusal
        read_point image copy session connections = decided_point image copy connections
            ∙ (λ i. first_refusal (kind_checks kind.List (is i) (rest_of_point (standing_with image connections) ((keyed t kind.List is image copy connections text ∙ k_is) i))))

      reads_point : (k : Option Text) → normal_of t text ≡ k → (r : Result Span Refusal) → r ≡ point_by k → IfOk r (λ span. IsTrue (is_span_of kind.List t span)) → ReadsSpan known addpoint name location r
      reads_point None k_is r by ok = subst (ReadsSpan known addpoint name location) (sym by) (λ image copy session connections. read_point None k_is image copy session connections)
      reads_point (Some key) k_is r by ok = subst (ReadsSpan known addpoint name location) (sym by) (λ image copy. record {
        of_map = (kind.List, t, sym (by_copy (global image) copy) ∙ is, subst (λ (r : Result Span Refusal). IfOk r (λ span. IsTrue (is_span_of kind.List t span))) by ok);
        decides = λ session connections. read_point (Some key) k_is image copy session connections;
        makes = λ connections. ap (λ (k : Option Text). added name location (option_map Point k)) (keyed t kind.List is image copy connections text ∙ k_is);
      })

      -- the point of the word
      pub point_reads : (r : Result Span Refusal) → r ≡ point_by (normal_of t text) → IfOk r (λ span. IsTrue (is_span_of kind.List t span)) → ReadsSpan known addpoint name location r
      point_reads = reads_point (normal_of t text) refl

-- ---- over what is told

module _ (told : Told) (known : Known) (c : Command) (name location : Text) where
  -- a refusal of the words is the command's
  pub words_refused : (words : Result Span Refusal) (r : Refusal) → words ≡ Err r → ReadsSpan known c name location words → IfContents told (PlansWith known c (Err (stop.Refused r)))
  words_refused words r is read = contents_all told (PlansWith known c (Err (stop.Refused r))) (λ image sound copy. (subst (ReadsSpan known c name location) is read) image copy)

  -- and so is the plan of the mapping that the words ask for
  pub words_planned : (words : Result Span Refusal) (span : Span) → words ≡ Ok span → ReadsSpan known c name location words → (result : Result Plan PlanStop) → IfContents told (PlansNew known name span location result) → IfContents told (PlansWith known c result)
  words_planned words span is read result = contents_weaker told (PlansNew known name span location result) (PlansWith known c result)
      (λ image plans sound copy. plans sound copy c ((subst (ReadsSpan known c name location) is read) image copy))
