-- What is found of an object's line table before it is measured and written. Assumes nothing.
use Rattle.std.specs.Prelude as prelude
use Rattle.std.specs.Prelude.{Some, None, ◌≡◌, true, false, List, [], ◌++◌, ℕ, ◌+◌, ◌*◌, ◌≤◌, ◌<◌, length}
use Rattle.format.specs.Source.{line_count}
use Rattle.format.specs.TextWriter.{line_table, line_width, add_blocks, plain_rows, bar_line, blocks_only}
use Rattle.format.specs.Utf8.{is_utf8}
use Rattle.object.specs.Texts.{text_bytes}
use Rattle.object.specs.Access.{kind_at}
use Rattle.source_info.proofs.RecordLaws.{Left}
use Rattle.text_lines_out.specs.Merge.{wrapped}
use Rattle.text_lines_out.specs.Walk.{line_blocks_in, Wraps, source_table}
use Rattle.text_lines_out.specs.declared.Wrapped.{Wrapped}
use Rattle.label_tables.specs.Tables.{names_width, indices_width}
use Rattle.text_write.specs.Tables.{object_in}
use Rattle.text_write.specs.declared.lines.Source.{Source}
use Rattle.text_write.specs.declared.lines.Plan.{Plan}

-- the source of a plan, and its words whose lines wrap
abbrev pub planned_text : List ℕ → Source → List ℕ
planned_text ws p = text_bytes ws p.text p.n

abbrev pub planned_wraps : Source → Wrapped
planned_wraps p = record { place = p.place; count = p.count }

-- from a head on there are the object's line blocks, relocations and source
abbrev pub Past : List ℕ → ℕ → Type 0
Past ws at =
    Left ws at (λ h. h.line_blocks) (line_blocks_in ws) × Left ws at (λ h. h.relocations) (object_in ws).relocations
    × Left ws at (λ h. h.source) (object_in ws).source

-- of this kind is the record at a head past which the object's source lies (4), or its relocations (5); or it is the end
pub record First (ws : List ℕ) (k at : ℕ) : Type 0 where
  pub source : k ≡ 4 → Left ws at (λ h. h.source) (object_in ws).source
  pub links : k ≡ 5 → Left ws at (λ h. h.relocations) (object_in ws).relocations
  pub there : at < length ws → kind_at ws at ≡ k

-- the object's relocations begin at a head, or there are none
abbrev pub Links : List ℕ → ℕ → Type 0
Links ws at = Left ws at (λ h. h.relocations) (object_in ws).relocations × (at < length ws → kind_at ws at ≡ 5)

-- a plan of an object that has a source
pub record Tabled (ws : List ℕ) (p : Source) : Type 0 where
  pub short : p.n ≤ 3 * length ws
  pub few : p.lines ≤ 3 * length ws + 1
  pub counted : p.lines ≡ line_count (planned_text ws p)
  pub sound : is_utf8 (planned_text ws p) ≡ true
  pub wide : p.width ≡ line_width (add_blocks (line_blocks_in ws) (plain_rows 0 p.lines))
  pub wraps : Wraps ws (wrapped (line_blocks_in ws)) (planned_wraps p)
  pub past : Past ws p.first
  pub whole : source_table ws ≡ line_table (planned_text ws p) (line_blocks_in ws) ++ bar_line

-- the source of an object, if it has one
abbrev pub SourceOf : List ℕ → prelude.Option Source → Type 0
SourceOf ws (Some p) = Tabled ws p
SourceOf ws None = source_table ws ≡ []

-- a plan of an object that has more than blocks
pub record Planned (ws : List ℕ) (p : Plan) : Type 0 where
  pub only : false ≡ blocks_only (object_in ws)
  pub linked : Links ws p.links
  pub wide : (p.widths.names ≡ names_width ws) × (p.widths.indices ≡ indices_width ws)
  pub source : SourceOf ws p.source

-- a plan of an object
abbrev pub PlanOf : List ℕ → prelude.Option Plan → Type 0
PlanOf ws (Some p) = Planned ws p
PlanOf ws None = true ≡ blocks_only (object_in ws)
