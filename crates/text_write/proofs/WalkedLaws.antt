-- A walk from head to head along a well formed object passes its blocks, and its relocations; and the tables of its labels. Assumes nothing.
use mathlib.Core.Path.{◌≡◌, refl, sym, ap, subst, ◌∙◌}
use mathlib.Core.List.{List, ◌++◌, flat_map}
use Prim.Native.Nat.{ℕ, zero, suc, ◌+◌, ◌-◌, ◌≤◌, ◌<◌}
use native.Mathlib.Omega.{arith}
use lib.ListN.{length}
use lib.Dec.{ltb, eqb}
use borrow.Author.Tests.{ltb-true, ltb-false, eqb-true, eqb-false}
use Rattle.format.specs.ObjectFile.{Label}
use Rattle.format.specs.TextWriter.{symbol_table, symbol_header, label_table, label_header}
use Rattle.format.specs.Calls.{checked}
use Rattle.format.proofs.ListLaws.{by_test}
use Rattle.writing.specs.Written.{Put}
use Rattle.object.specs.Bodies.{body_at}
use Rattle.object.specs.Access.{kind_at}
use Rattle.source_info.proofs.RecordLaws.{Left}
use Rattle.measuring.specs.Fitting.{fitting}
use Rattle.measuring.proofs.FittingLaws.{all-put}
use Rattle.text_parts_out.specs.Parts.{heads, leading, block_text, block_places, link_text}
use Rattle.text_parts_out.proofs.HeadLaws.{heads-end, heads-next, leading_end, leading-other, leading-next}
use Rattle.label_order.specs.Labels.{label_places}
use Rattle.label_tables.specs.Rows.{symbol_line, label_line}
use Rattle.label_tables.specs.Tables.{names_width, indices_width, by_address, by_start}
use Rattle.label_tables.proofs.TableLaws.{symbols_text, labels-text}
use Rattle.label_windows.specs.Fits.{table_fitting}
use Rattle.label_windows.proofs.FitLaws.{table_put}
use Rattle.text_write.specs.Tables.{object_in, block_table, block_part, blocks_text, relocation_rows, relocation_part, relocations_text}
use Rattle.text_write.specs.Layouts.{Links}
use Rattle.text_write.proofs.WalkLaws.{past, walk_start, walk_end, walk-part, walk-on}
use Rattle.text_write.proofs.PartLaws.{blocks-walk, relocations-walk, block_is, relocation_is, relocation-name}
use Rattle.text_write.proofs.PastLaws.{Ordered, ordered-start, ordered-on, blocks-over, links-rows}

module _ (ws : List ℕ) where
  abbrev next : ℕ → ℕ
  next at = at + 1 + length (body_at ws (at + 1))

  -- at a head, if what follows it is so
  module _ (at : ℕ) (v : List ℕ) (l : Left ws at block_table v) where
    abbrev blocks : List ℕ
    blocks = flat_map (block_text ws) (leading ws (heads ws at))

    blocks_end : length ws ≤ at → blocks ≡ v
    unfolding flat_map
    blocks_end m =
        ap (flat_map (block_text ws)) (leading_end ws at m) ∙ sym (walk_end block_table block_part blocks-walk ws at v m l)

    blocks-other : at < length ws → Ordered ws at → (kind_at ws at ≡ 0 → ⊥) → blocks ≡ v
    unfolding flat_map
    blocks-other m o k = ap (flat_map (block_text ws)) (leading-other ws at m k) ∙ sym (blocks-over ws at v m l o k)

    blocks-here : (m : at < length ws) → kind_at ws at ≡ 0
        → flat_map (block_text ws) (leading ws (heads ws (next at))) ≡ past block_table block_part blocks-walk ws at v m l → blocks ≡ v
    unfolding flat_map
    blocks-here m k ih =
        let rest = past block_table block_part blocks-walk ws at v m l in
        ap (flat_map (block_text ws)) (leading-next ws at (next at) m refl k) ∙ ap (λ (r : List ℕ). block_text ws at ++ r) ih
        ∙ ap (λ (r : List ℕ). r ++ rest) (sym (block_is ws at k)) ∙ sym (walk-part block_table block_part blocks-walk ws at v m l)

  blocks-left : (n at : ℕ) (v : List ℕ) → length ws - at ≤ n → Left ws at block_table v → Ordered ws at
      → flat_map (block_text ws) (leading ws (heads ws at)) ≡ v
  blocks-left zero at v h l o = blocks_end at v l (omega (arith, h))
  blocks-left (suc n) at v h l o =
      by_test (ltb at (length ws))
      (λ t. let m = ltb-true at (length ws) t in
      by_test (eqb (kind_at ws at) 0)
      (λ q. blocks-here at v l m (eqb-true (kind_at ws at) 0 q)
      (blocks-left n (next at) (past block_table block_part blocks-walk ws at v m l) (omega (arith, h, m))
      (walk-on block_table block_part blocks-walk ws at v m l (next at) refl) (ordered-on ws at (next at) m l.stops refl o)))
      (λ q. blocks-other at v l m o (eqb-false (kind_at ws at) 0 q)))
      (λ t. blocks_end at v l (ltb-false at (length ws) t))

  module _ (at : ℕ) (v : List ℕ) (l : Left ws at relocation_rows v) where
    links_end : length ws ≤ at → flat_map (link_text ws) (heads ws at) ≡ v
    unfolding flat_map
    links_end m =
        ap (flat_map (link_text ws)) (heads-end ws at m) ∙ sym (walk_end relocation_rows relocation_part relocations-walk ws at v m l)

    links-here : (m : at < length ws)
        → flat_map (link_text ws) (heads ws (next at)) ≡ past relocation_rows relocation_part relocations-walk ws at v m l
        → flat_map (link_text ws) (heads ws at) ≡ v
    unfolding flat_map
    links-here m ih =
        let rest = past relocation_rows relocation_part relocations-walk ws at v m l in
        ap (flat_map (link_text ws)) (heads-next ws at (next at) m refl) ∙ ap (λ (r : List ℕ). link_text ws at ++ r) ih
        ∙ ap (λ (r : List ℕ). r ++ rest) (relocation_is ws at (relocation-name ws relocation_rows at v m l))
        ∙ sym (walk-part relocation_rows relocation_part relocations-walk ws at v m l)

  links-left : (n at : ℕ) (v : List ℕ) → length ws - at ≤ n → Left ws at relocation_rows v → flat_map (link_text ws) (heads ws at) ≡ v
  links-left zero at v h l = links_end at v l (omega (arith, h))
  links-left (suc n) at v h l =
      by_test (ltb at (length ws))
      (λ t. let m = ltb-true at (length ws) t in
      links-here at v l m
      (links-left n (next at) (past relocation_rows relocation_part relocations-walk ws at v m l) (omega (arith, h, m))
      (walk-on relocation_rows relocation_part relocations-walk ws at v m l (next at) refl)))
      (λ t. links_end at v l (ltb-false at (length ws) t))

  -- .TEXT
  module _ (e : checked ws ≡ 0) where
    pub blocks_are : flat_map (block_text ws) (block_places ws) ≡ blocks_text ws
    blocks_are =
        blocks-left (length ws) 0 (blocks_text ws) (omega arith) (walk_start block_table block_part blocks-walk ws e) (ordered-start ws e)

    pub blocks-put : (room after : List ℕ) (r : ℕ) → length (blocks_text ws) ≤ length room
        → Put (fitting (block_text ws) (length room) (block_places ws)) room r after → Put (blocks_text ws) room r after
    blocks-put room after r h p =
        subst (λ (x : List ℕ). Put x room r after) blocks_are
        (all-put (block_text ws) (block_places ws) room after r (omega (arith, h, ap length blocks_are)) p)

  -- .LINKER_INFO
  module _ (at : ℕ) (k : Links ws at) where
    pub links_are : flat_map (link_text ws) (heads ws at) ≡ relocations_text ws
    links_are = links-left (length ws) at (relocations_text ws) (omega arith) (links-rows ws at k.0)

    pub links-put : (room after : List ℕ) (r : ℕ) → length (relocations_text ws) ≤ length room
        → Put (fitting (link_text ws) (length room) (heads ws at)) room r after → Put (relocations_text ws) room r after
    links-put room after r h p =
        subst (λ (x : List ℕ). Put x room r after) links_are
        (all-put (link_text ws) (heads ws at) room after r (omega (arith, h, ap length links_are)) p)

-- THE TABLES OF LABELS
subst₂ : (P : ℕ → ℕ → Type 0) {a b c d : ℕ} → a ≡ b → c ≡ d → P a c → P b d
subst₂ P {a} {b} {c} {d} e f p = subst (λ (x : ℕ). P b x) f (subst (λ (x : ℕ). P x c) e p)

module _ (ws : List ℕ) (z : checked ws ≡ 0) where
  abbrev labels : List Label
  labels = (object_in ws).labels

  pub symbols_put : (room after : List ℕ) (r : ℕ) → length (symbol_table labels) ≤ length room
      → Put (table_fitting symbol_header (symbol_line ws) (label_places ws) (by_address ws) (length room)) room r after
      → Put (symbol_table labels) room r after
  symbols_put room after r h p =
      subst (λ (x : List ℕ). Put x room r after) (symbols_text ws z)
      (table_put symbol_header (symbol_line ws) (label_places ws) (by_address ws) room after r
      (omega (arith, h, ap length (symbols_text ws z))) p)

  pub labels-put : (names indices : ℕ) → (names ≡ names_width ws) × (indices ≡ indices_width ws) → (room after : List ℕ) (r : ℕ)
      → length (label_table labels) ≤ length room
      → Put (table_fitting (label_header names indices) (label_line names indices ws) (label_places ws) (by_start ws) (length room)) room r after
      → Put (label_table labels) room r after
  labels-put names indices q room after r h p =
      let x = names_width ws in
      let y = indices_width ws in
      subst (λ (x : List ℕ). Put x room r after) (labels-text ws z)
      (table_put (label_header x y) (label_line x y ws) (label_places ws) (by_start ws) room after r
      (omega (arith, h, ap length (labels-text ws z)))
      (subst₂ (λ n i. Put (table_fitting (label_header n i) (label_line n i ws) (label_places ws) (by_start ws) (length room)) room r after)
      q.0 q.1 p))
