-- The first unknown location that the cells of the naming groups name is the first that the store names.
use Rattle.std.proofs.Common.{◌≡◌, inl, inr, Bool, true, false, cond, not, List, [], ◌∷◌, ◌++◌, Option, Some, None, IsSome, is_some, refl, sym, ap, ◌∙◌, subst}
use Rattle.std.specs.Prelude.{Result, Ok, Err, IfOk}
use Rattle.std.specs.Option.{option_or}
use Rattle.std.specs.Ordering.{nat_cmp, ordering_then, is_gt}
use Rattle.std.specs.Cmp.Lexicographic.{slice_cmp}
use Rattle.std.specs.declared.cmp.Ordering.TheVariants.{Less}
use Rattle.std.proofs.lemmas.Cmp.{tied_itself}
use Rattle.std.proofs.lemmas.List.Folds.{find-append}
use Rattle.std.proofs.lemmas.Option.{none-some}
use Rattle.cell_world.specs.Texts.{Text}
use Rattle.cell_world.specs.ByteOrder.{byte_cmp}
use Rattle.cell_world.specs.Keys.{is_among}
use Rattle.cell_world.specs.Lists.{IsOneOf}
use Rattle.cell_world.specs.Orders.{cell_cmp, kind_number, fields_of}
use Rattle.cell_world.specs.Stores.{Store, IsKeyed, IsStore, Stands, own_key}
use Rattle.cell_world.specs.declared.cells.Cell.{Cell}
use Rattle.cell_world.specs.declared.cells.Cell.TheVariants as cell
use Rattle.cell_world.specs.declared.cells.CellKey.{CellKey}
use Rattle.cell_world.specs.declared.cells.Site.{Site}
use Rattle.cell_world.specs.Images.{global}
use Rattle.cell_world.specs.Outside.{Told, IfContents, TellsCells, site_number}
use Rattle.cell_world.proofs.ContentsLaws.{contents_weaker, contents_both, contents_store}
use Rattle.image_laws.proofs.SiteLaws.{number_known}
use Rattle.global_tables.specs.declared.faults.StepFault.{StepFault}
use Rattle.global_tables.specs.declared.groups.Group.{Group}
use Rattle.global_tables.specs.declared.groups.Group.TheVariants as group
use Rattle.global_tables.specs.Groups.{kind_of, is_in, cells_of}
use Rattle.global_tables.proofs.Rising.{Rising, rising_append, in_left, in_right, in_either}
use Rattle.global_tables.proofs.CellOrder.{Before, cell_total}
use Rattle.global_tables.proofs.Neighbours.{kind_in}
use Rattle.global_tables.proofs.GroupCells.{rise, stand, there}
use Rattle.plain_model.specs.Headline.{named_locations, first_unknown}
use Rattle.site_names.specs.Named.{first_named, cells_in, naming_groups, TellsFirst}

-- ---- one after the other

or_assoc : (a b c : Option Text) → option_or (option_or a b) c ≡ option_or a (option_or b c)
or_assoc None b c = refl
or_assoc (Some x) b c = refl

or_none : (a b : Option Text) → option_or a b ≡ None → (a ≡ None) × (b ≡ None)
or_none None b h = (refl, h)
or_none (Some x) b h = cc

some_is : (o : Option Text) (l : Text) → o ≡ Some l → IsSome o
some_is None l h = cc
some_is (Some x) l h = refl

no_some : (o : Option Text) → o ≡ None → IsSome o → ⊥
no_some None e h = cc
no_some (Some x) e h = cc

module _ (known : List Text) where
  -- a location is known where it has a site
  located : (at : Text) (site : Option Site) → site ≡ site_number known at → is_among known at ≡ is_some site
  located at site is = sym (number_known known at) ∙ ap is_some (sym is)

  pub not_where_located : (at : Text) (site : Option Site) (here : Site) → site ≡ site_number known at → site ≡ Some here → None ≡ first_unknown known (at ∷ [])
  not_where_located at site here is found = sym (ap (λ b. cond (not b) (Some at) None) (located at site is ∙ ap is_some found))

  pub where_not_located : (at : Text) (site : Option Site) → site ≡ site_number known at → site ≡ None → Some at ≡ first_unknown known (at ∷ [])
  where_not_located at site is none = sym (ap (λ b. cond (not b) (Some at) None) (located at site is ∙ ap is_some none))

  -- the first of three lists
  pub first_of_three : (xs ys zs : List Text) → option_or (option_or (first_unknown known xs) (first_unknown known ys)) (first_unknown known zs) ≡ first_unknown known (xs ++ ys ++ zs)
  first_of_three xs ys zs =
      let test : Text → Bool = λ location. not (is_among known location) in
      sym (find-append test (xs ++ ys) zs ∙ ap (λ o. option_or o (first_unknown known zs)) (find-append test xs ys))

  -- the first that the cell names
  abbrev names : Cell → Option Text
  names c = first_unknown known (named_locations c)

  -- what is found is unknown
  pub found_unknown : (ls : List Text) (l : Text) → first_unknown known ls ≡ Some l → is_among known l ≡ false
  found_unknown [] l h = cc
  found_unknown (x ∷ xs) l h = by (is_among known x) refl h (found_unknown xs l)
    where
      by : (b : Bool) → is_among known x ≡ b → cond (not b) (Some x) (first_unknown known xs) ≡ Some l → (first_unknown known xs ≡ Some l → is_among known l ≡ false) → is_among known l ≡ false
      by true e h more = more h
      by false e h more = let is : x ≡ l = cc in ap (is_among known) (sym is) ∙ e

  named_append : (xs ys : List Cell) → first_named known (xs ++ ys) ≡ option_or (first_named known xs) (first_named known ys)
  named_append [] ys = refl
  named_append (x ∷ xs) ys = ap (option_or (names x)) (named_append xs ys) ∙ sym (or_assoc (names x) (first_named known xs) (first_named known ys))

  -- where none is found no cell names one
  none_named : (cs : List Cell) → first_named known cs ≡ None → (c : Cell) → IsOneOf cs c → names c ≡ None
  none_named [] h c m = absurd m
  none_named (d ∷ ds) h c (inl is) = ap names (sym is) ∙ (or_none (names d) (first_named known ds) h).0
  none_named (d ∷ ds) h c (inr m) = none_named ds (or_none (names d) (first_named known ds) h).1 c m

  -- one of the cells names it first, and no cell before that one names one
  abbrev HasFirst : List Cell → Text → Type 0
  HasFirst cs l = (c : Cell) × IsOneOf cs c × (names c ≡ Some l) × ((other : Cell) → IsOneOf cs other → IsSome (names other) → is_gt (cell_cmp (own_key c) (own_key other)) ≡ false)

  first_found : (cs : List Cell) → Rising Before cs → (l : Text) → first_named known cs ≡ Some l → HasFirst cs l
  first_found [] r l h = cc
  first_found (d ∷ ds) r l h = by (names d) refl h (first_found ds r.1 l)
    where
      by : (o : Option Text) → names d ≡ o → option_or o (first_named known ds) ≡ Some l → (first_named known ds ≡ Some l → HasFirst ds l) → HasFirst (d ∷ ds) l
      by (Some x) e h more = (
        d,
        inl refl,
        e ∙ h,
        λ other m some. elim m [
          | inl is ↦ ap (λ c. is_gt (cell_cmp (own_key d) (own_key c))) (sym is) ∙ ap is_gt (tied_itself cell_total (own_key d))
          | inr later ↦ ap is_gt (r.0 other later)
        ],
      )
      by None e h more = let f = more h in (
        f.0,
        inr f.1,
        f.2,
        λ other m some. elim m [
          | inl is ↦ absurd (no_some (names other) (ap names (sym is) ∙ e) some)
          | inr later ↦ f.3 other later some
        ],
      )

-- ---- groups one after the other

-- cell order goes by kind first
by_kind : (a b : CellKey) → nat_cmp (kind_number a) (kind_number b) ≡ Less → cell_cmp a b ≡ Less
by_kind a b h = ap (λ r. ordering_then r (slice_cmp byte_cmp (fields_of a) (fields_of b))) h

-- the group's kind is before those of the others
abbrev IsAhead : Group → List Group → Type 0
IsAhead g [] = Unit {0}
IsAhead g (h ∷ hs) = (nat_cmp (kind_of g) (kind_of h) ≡ Less) × IsAhead g hs

-- each group's kind is before those of the later ones
abbrev AreAscending : List Group → Type 0
AreAscending [] = Unit {0}
AreAscending (g ∷ gs) = IsAhead g gs × AreAscending gs

module _ (s : Store) (keyed : IsKeyed s) where
  kind_there : (g : Group) (c : Cell) → IsOneOf (cells_of s g) c → kind_number (own_key c) ≡ kind_of g
  kind_there g c m = kind_in g (own_key c) (stand s keyed g c m).1

  apart : (g : Group) (gs : List Group) → IsAhead g gs → (x y : Cell) → IsOneOf (cells_of s g) x → IsOneOf (cells_in s gs) y → Before x y
  apart g [] ahead x y m n = absurd n
  apart g (h ∷ hs) ahead x y m n = elim (in_either (cells_of s h) (cells_in s hs) y n) [
    | inl p ↦ by_kind (own_key x) (own_key y) ((λ i. nat_cmp (kind_there g x m i) (kind_there h y p i)) ∙ ahead.0)
    | inr p ↦ apart g hs ahead.1 x y m p
  ]

  rise_in : (gs : List Group) → AreAscending gs → Rising Before (cells_in s gs)
  rise_in [] a = tt
  rise_in (g ∷ gs) a = rising_append Before (cells_of s g) (cells_in s gs) (rise s keyed g) (rise_in gs a.1) (apart g gs a.0)

  stand_in : (gs : List Group) (c : Cell) → IsOneOf (cells_in s gs) c → Stands s c
  stand_in [] c m = absurd m
  stand_in (g ∷ gs) c m = elim (in_either (cells_of s g) (cells_in s gs) c m) [ inl p ↦ (stand s keyed g c p).0 | inr p ↦ stand_in gs c p ]

  there_in : (gs : List Group) (g : Group) → IsOneOf gs g → (c : Cell) → Stands s c → is_in g (own_key c) ≡ true → IsOneOf (cells_in s gs) c
  there_in [] g m c h e = absurd m
  there_in (k ∷ ks) g (inl is) c h e = in_left (cells_of s k) (cells_in s ks) c (there s keyed k c h (subst (λ x. is_in x (own_key c) ≡ true) (sym is) e))
  there_in (k ∷ ks) g (inr m) c h e = in_right (cells_of s k) (cells_in s ks) c (there_in ks g m c h e)

  -- a cell that names a location is of one of the naming groups
  naming_there : (known : List Text) (c : Cell) → Stands s c → IsSome (names known c) → IsOneOf (cells_in s naming_groups) c
  naming_there known (cell.Shard map location) h some = there_in naming_groups group.Shards (inl refl) (cell.Shard map location) h refl
  naming_there known (cell.Piece piece) h some = there_in naming_groups group.Pieces (inr (inl refl)) (cell.Piece piece) h refl
  naming_there known (cell.Log op) h some = there_in naming_groups group.Log (inr (inr (inl refl))) (cell.Log op) h refl
  naming_there known (cell.Job job) h some = there_in naming_groups group.Jobs (inr (inr (inr (inl refl)))) (cell.Job job) h refl
  naming_there known (cell.SiteState location state) h some = there_in naming_groups group.Away (inr (inr (inr (inr (inl refl))))) (cell.SiteState location state) h refl
  naming_there known (cell.Map name kind type) h some = absurd (no_some None refl some)
  naming_there known (cell.Table name table) h some = absurd (no_some None refl some)
  naming_there known (cell.Counter counters) h some = absurd (no_some None refl some)
  naming_there known (cell.Local row) h some = absurd (no_some None refl some)
  naming_there known (cell.Row row bytes) h some = absurd (no_some None refl some)

  ascending : AreAscending naming_groups
  ascending = ((refl, (refl, (refl, (refl, tt)))), ((refl, (refl, (refl, tt))), ((refl, (refl, tt)), ((refl, tt), (tt, tt)))))

  -- The first that the naming groups name is the first of the store.
  tells_first : (known : List Text) (found : Option Text) → found ≡ first_named known (cells_in s naming_groups) → TellsFirst s known found
  tells_first known None e = λ location first.
      let none : names known first.cell ≡ None = none_named known (cells_in s naming_groups) (sym e) first.cell (naming_there known first.cell first.stands (some_is (names known first.cell) location first.names)) in
      none-some location (sym none ∙ first.names)
  tells_first known (Some l) e =
      let f = first_found known (cells_in s naming_groups) (rise_in naming_groups ascending) l (sym e) in
      record { cell = f.0; stands = stand_in naming_groups f.0 f.1; names = f.2; first = λ other h some. f.3 other (naming_there known other h some) some }

-- ---- over what is told

-- what follows of what is found
pub ok_then : (r : Result (Option Text) StepFault) (P Q : Option Text → Type 0) → IfOk r P → ((found : Option Text) → P found → Q found) → IfOk r Q
ok_then (Ok found) P Q h so = so found h
ok_then (Err e) P Q h so = tt

nothing_after : (o : Option Text) → option_or o None ≡ o
nothing_after None = refl
nothing_after (Some x) = refl

-- this is the first that these groups name
abbrev pub IsFirstIn : List Text → Told → List Group → Option Text → Type 0
IsFirstIn known told gs found = IfContents told (λ image. found ≡ first_named known (cells_in (global image) gs))

abbrev pub IsFirstOf : List Text → Told → Group → Option Text → Type 0
IsFirstOf known told g found = IfContents told (λ image. found ≡ first_named known (cells_of (global image) g))

-- the rows that are listed tell it
pub listed_tells : (known now : List Text) (told : Told) (g : Group) (rows : List Cell) (found : Option Text) → now ≡ known → found ≡ first_named now rows → IfContents told (λ image. rows ≡ cells_of (global image) g) → IsFirstOf known told g found
listed_tells known now told g rows found same is listed =
    contents_weaker told (λ image. rows ≡ cells_of (global image) g) (λ image. found ≡ first_named known (cells_of (global image) g)) (λ image e. is ∙ (λ i. first_named (same i) (e i))) listed

here : (known : List Text) (s : Store) (g : Group) (gs : List Group) (found : Option Text) → is_some found ≡ true → found ≡ first_named known (cells_of s g) → found ≡ first_named known (cells_in s (g ∷ gs))
here known s g gs None some is = cc
here known s g gs (Some l) some is = ap (λ o. option_or o (first_named known (cells_in s gs))) is ∙ sym (named_append known (cells_of s g) (cells_in s gs))

later : (known : List Text) (s : Store) (g : Group) (gs : List Group) (none found : Option Text) → is_some none ≡ false → none ≡ first_named known (cells_of s g) → found ≡ first_named known (cells_in s gs) → found ≡ first_named known (cells_in s (g ∷ gs))
later known s g gs (Some l) found absent e is = cc
later known s g gs None found absent e is = is ∙ ap (λ o. option_or o (first_named known (cells_in s gs))) e ∙ sym (named_append known (cells_of s g) (cells_in s gs))

-- it is found in the first group
pub here_tells : (known : List Text) (told : Told) (g : Group) (gs : List Group) (found : Option Text) → is_some found ≡ true → IsFirstOf known told g found → IsFirstIn known told (g ∷ gs) found
here_tells known told g gs found some h =
    contents_weaker told (λ image. found ≡ first_named known (cells_of (global image) g)) (λ image. found ≡ first_named known (cells_in (global image) (g ∷ gs))) (λ image e. here known (global image) g gs found some e) h

-- it is found in the only group
pub last_tells : (known : List Text) (told : Told) (g : Group) (found : Option Text) → IsFirstOf known told g found → IsFirstIn known told (g ∷ []) found
last_tells known told g found h =
    contents_weaker told (λ image. found ≡ first_named known (cells_of (global image) g)) (λ image. found ≡ first_named known (cells_in (global image) (g ∷ [])))
    (λ image e. e ∙ sym (named_append known (cells_of (global image) g) [] ∙ nothing_after (first_named known (cells_of (global image) g)))) h

-- none is found in the first group, and later it is found in the others
pub later_tells : (known now : List Text) (told after : Told) (g : Group) (gs : List Group) (none found : Option Text) → now ≡ known → after ≡ told → is_some none ≡ false → IsFirstOf known told g none → IsFirstIn now after gs found → IsFirstIn known told (g ∷ gs) found
later_tells known now told after g gs none found same unchanged absent h rest =
    contents_weaker told (λ image. (none ≡ first_named known (cells_of (global image) g)) × (found ≡ first_named known (cells_in (global image) gs))) (λ image. found ≡ first_named known (cells_in (global image) (g ∷ gs)))
    (λ image e. later known (global image) g gs none found absent e.0 e.1)
    (contents_both told (λ image. none ≡ first_named known (cells_of (global image) g)) (λ image. found ≡ first_named known (cells_in (global image) gs)) h
    (subst (λ ls. IsFirstIn ls told gs found) same (subst (λ t. IsFirstIn now t gs found) unchanged rest)))

-- The first that the naming groups name is the first of what is told.
pub contents_tell : (known : List Text) (told : Told) (found : Option Text) → TellsCells told → IsFirstIn known told naming_groups found → IfContents told (λ image. TellsFirst (global image) known found)
contents_tell known told found cells h =
    contents_weaker told (λ image. IsStore (global image) × (found ≡ first_named known (cells_in (global image) naming_groups))) (λ image. TellsFirst (global image) known found)
    (λ image e. tells_first (global image) e.0.keyed known found e.1)
    (contents_both told (λ image. IsStore (global image)) (λ image. found ≡ first_named known (cells_in (global image) naming_groups)) (contents_store told cells) h)
