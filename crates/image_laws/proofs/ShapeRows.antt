-- What the shapes say of tokens, and of the rows under the keys.
use Rattle.std.proofs.Common.{◌≡◌, ◌⊎◌, Bool, true, cond, refl, sym, ap, ◌∙◌, subst, Some, None, Option, inl, inr, List, [], ◌∷◌, ◌&&◌}
use Rattle.std.specs.Prelude.{IsTrue, option_and_then}
use Rattle.std.specs.FinMap as map
use Rattle.std.proofs.lemmas.Bool.{and_from}
use Rattle.cell_world.specs.Texts.{Text}
use Rattle.cell_world.specs.Lists.{IsOneOf}
use Rattle.cell_world.specs.Keys.{same, contains}
use Rattle.cell_world.specs.Orders.{row_cmp}
use Rattle.cell_world.specs.Stores.{Rows, Jobs}
use Rattle.cell_world.specs.Lawful.{HasShape, rows_under, job_with_token, job_of_pieces, or_else}
use Rattle.cell_world.specs.declared.operations.Piece.{Piece}
use Rattle.cell_world.specs.declared.operations.JobRow.{JobRow}
use Rattle.cell_world.specs.declared.cells.Token.{Token}
use Rattle.cell_world.specs.declared.cells.RowName.{RowName}
use Rattle.cell_world.specs.declared.spans.Span.{Span}
use Rattle.cell_world.proofs.OrderLaws.{exact_rows}
use Rattle.cell_world.proofs.SpanLaws.{same_self}
use Rattle.image_laws.specs.Shapes.{IsSpanned}
use Rattle.image_laws.proofs.ShapeLaws.{of_one, of_two, cut_of}

-- ---- tokens

-- olds and news have one token, and a mapping that is added has none
pub record HaveToken (olds news : List Piece) : Type 0 where
  pub token : Option Token
  pub of_old : (o : Piece) → IsOneOf olds o → o.token ≡ token
  pub of_new : (n : Piece) → IsOneOf news n → n.token ≡ token
  pub added : (olds ≡ []) → token ≡ None

abbrev Is : Option Token → Piece → Type 0
Is token p = p.token ≡ token

not_empty : {o : Piece} {os : List Piece} → (o ∷ os) ≡ [] → {A : Type 0} → A
not_empty e = absurd (cc)

pub tokens_of : (rows : Text → Rows) (olds news : List Piece) → HasShape rows olds news → HaveToken olds news
tokens_of rows [] (n ∷ []) s = record { token = None; of_old = λ o h. absurd h; of_new = of_one (Is None) s.1; added = λ e. refl }
tokens_of rows (o ∷ []) [] s = record { token = o.token; of_old = of_one (Is o.token) refl; of_new = λ n h. absurd h; added = λ e. not_empty e }
tokens_of rows (o ∷ []) (n ∷ []) (inl t) = record { token = o.token; of_old = of_one (Is o.token) refl; of_new = of_one (Is o.token) (ap (λ (p : Piece). p.token) t.rest); added = λ e. not_empty e }
tokens_of rows (o ∷ []) (n ∷ []) (inr m) = record { token = o.token; of_old = of_one (Is o.token) refl; of_new = of_one (Is o.token) (ap (λ (p : Piece). p.token) m.rest); added = λ e. not_empty e }
tokens_of rows (o ∷ []) (l ∷ h ∷ []) c = record { token = o.token; of_old = of_one (Is o.token) refl; of_new = of_two (Is o.token) (ap (λ (p : Piece). p.token) c.lower) (ap (λ (p : Piece). p.token) c.upper); added = λ e. not_empty e }
tokens_of rows (l ∷ h ∷ []) (n ∷ []) c = record { token = n.token; of_old = of_two (Is n.token) (ap (λ (p : Piece). p.token) c.lower) (ap (λ (p : Piece). p.token) c.upper); of_new = of_one (Is n.token) refl; added = λ e. not_empty e }
tokens_of rows olds news s = absurd s

-- The job of an old is the job of the operation.
pub job_of_old : (jobs : Jobs) (olds news : List Piece) → HaveToken olds news → (o : Piece) → IsOneOf olds o → (job : JobRow) → job_with_token jobs o ≡ Some job → job_of_pieces jobs olds ≡ Some job
job_of_old jobs [] news t o among job e = absurd among
job_of_old jobs (x ∷ xs) news t o among job e =
    let same : x.token ≡ o.token = t.of_old x (inl refl) ∙ sym (t.of_old o among) in
    ap (λ j. or_else j (job_of_pieces jobs xs)) (ap (option_and_then (λ (k : Token). map.get jobs k.0)) same ∙ e)

-- ---- rows

-- The row of a key of an old has the same bytes where a new one has the key; where there is no new one, there is no row.
abbrev pub Follow : (Text → Rows) → List Piece → RowName → Piece → Type 0
Follow rows news row o =
    ((n : Piece) × IsOneOf news n × IsTrue (contains n.span row.key) × (map.get (rows n.location) row ≡ map.get (rows o.location) row))
    ⊎ ((news ≡ []) × (map.get (rows o.location) row ≡ None))

-- the row, read under a span that has its key
pub under : (rows : Rows) (name : Text) (span : Span) (row : RowName) → row.map ≡ name → IsTrue (contains span row.key) → map.get (rows_under rows name span) row ≡ map.get rows row
under rows name span row of_map inside =
    let test : RowName → Bool = λ r. same name r.map && contains span r.key in
    map.get-retain_keys rows test row (λ x tie. ap test (sym (exact_rows row x tie)))
    ∙ ap (λ b. cond b (map.get rows row) None) (and_from _ _ (subst (λ n. same n row.map ≡ true) of_map (same_self row.map)) inside)

pub rows_follow : (rows : Text → Rows) (olds news : List Piece) → HasShape rows olds news → ((p : Piece) → IsOneOf olds p → IsSpanned p.span) → ((p : Piece) → IsOneOf news p → IsSpanned p.span)
    → (row : RowName) → (o : Piece) → IsOneOf olds o → row.map ≡ o.map → IsTrue (contains o.span row.key) → Follow rows news row o
rows_follow rows [] (n ∷ []) s so sn row o among = absurd among
rows_follow rows (x ∷ []) [] s so sn row o among = of_one (λ (o : Piece). row.map ≡ o.map → IsTrue (contains o.span row.key) → Follow rows [] row o)
    (λ of_map inside. inr (refl, sym (under (rows x.location) x.map x.span row of_map inside) ∙ ap (λ (r : Rows). map.get r row) s.1 ∙ map.get-empty row_cmp row)) o among
rows_follow rows (x ∷ []) (n ∷ []) (inl t) so sn row o among = of_one (λ (o : Piece). row.map ≡ o.map → IsTrue (contains o.span row.key) → Follow rows (n ∷ []) row o)
    (λ of_map inside. inl (n, inl refl, subst (λ s. IsTrue (contains s row.key)) (sym (ap (λ (p : Piece). p.span) t.rest)) inside, ap (λ (p : Piece). map.get (rows p.location) row) t.rest)) o among
rows_follow rows (x ∷ []) (n ∷ []) (inr m) so sn row o among = of_one (λ (o : Piece). row.map ≡ o.map → IsTrue (contains o.span row.key) → Follow rows (n ∷ []) row o)
    (λ of_map inside. inl (
      n,
      inl refl,
      subst (λ s. IsTrue (contains s row.key)) (sym (ap (λ (p : Piece). p.span) m.rest)) inside,
      sym (under (rows n.location) x.map x.span row of_map inside) ∙ ap (λ (r : Rows). map.get r row) m.same_rows ∙ under (rows x.location) x.map x.span row of_map inside,
    )) o among
rows_follow rows (x ∷ []) (l ∷ h ∷ []) c so sn row o among = of_one (λ (o : Piece). row.map ≡ o.map → IsTrue (contains o.span row.key) → Follow rows (l ∷ h ∷ []) row o)
    (λ of_map inside. elim ((cut_of x l h c (sn l (inl refl)) (sn h (inr (inl refl)))).parts row.key inside) [
      | inl a ↦ inl (l, inl refl, a, ap (λ (p : Piece). map.get (rows p.location) row) c.lower)
      | inr a ↦ inl (h, inr (inl refl), a, ap (λ (p : Piece). map.get (rows p.location) row) c.upper)
    ]) o among
rows_follow rows (l ∷ h ∷ []) (n ∷ []) c so sn row o among =
    let cut = cut_of n l h c (so l (inl refl)) (so h (inr (inl refl))) in
    of_two (λ (o : Piece). row.map ≡ o.map → IsTrue (contains o.span row.key) → Follow rows (n ∷ []) row o)
    (λ of_map inside. inl (n, inl refl, cut.left row.key inside, sym (ap (λ (p : Piece). map.get (rows p.location) row) c.lower)))
    (λ of_map inside. inl (n, inl refl, cut.right row.key inside, sym (ap (λ (p : Piece). map.get (rows p.location) row) c.upper))) o among
rows_follow rows olds news s so sn row o among = absurd s
