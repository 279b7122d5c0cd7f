-- The text of a picture, as Graphviz or Mermaid draws it: a line for each package and one for each
-- edge.
use Rattle.std.specs.Prelude.{ℕ, List, [], ◌++◌, Option, Some, None, codes, decimal}
use Rattle.std.specs.Prelude.{if◌then◌else◌, slice_get}
use Rattle.std.specs.List.{flat_map}
use Rattle.cargo_lock_parts.specs.Identity.{PackageData}
use Rattle.cargo_lock_parts.specs.Source.{Source, is_git}
use Rattle.cargo_lock_display.specs.Line.{named_text}
use Rattle.cargo_lock_diagram.specs.Labels.{escaped}
use Rattle.cargo_lock_diagram.specs.declared.diagram.Shape.{Shape}
use Rattle.cargo_lock_diagram.specs.declared.diagram.Shape.TheVariants.{Rectangle, Hexagon, Rounded}
use Rattle.cargo_lock_diagram.specs.declared.label.Target.{Target}
use Rattle.cargo_lock_diagram.specs.declared.label.Target.TheVariants.{Dot, Mermaid}
use Rattle.cargo_lock_diagram.specs.declared.scene.Arrow.{Arrow}

-- the shape of a package: a rectangle for one without a source, a hexagon for one of a git
-- repository, and a rounded shape for any other
abbrev pub shape_of : Option Source → Shape
shape_of None = Rectangle
shape_of (Some source) = if is_git source.kind then Hexagon else Rounded

-- what is before a label
abbrev pub before_label : Target → Shape → List ℕ
before_label Dot shape = codes " [label=\""
before_label Mermaid Rectangle = codes "[\""
before_label Mermaid Hexagon = codes "{{\""
before_label Mermaid Rounded = codes "([\""

-- what is after a label
abbrev pub after_label : Target → Shape → List ℕ
after_label Dot Rectangle = codes "\" shape=box]\n"
after_label Dot Hexagon = codes "\" shape=hexagon]\n"
after_label Dot Rounded = codes "\" shape=ellipse]\n"
after_label Mermaid Rectangle = codes "\"]\n"
after_label Mermaid Hexagon = codes "\"}}\n"
after_label Mermaid Rounded = codes "\"])\n"

-- the line of a package, whose node is named after its place
abbrev pub package_node_line : Target → ℕ → PackageData → List ℕ
package_node_line target node p = codes "  n" ++ (decimal node
    ++ (before_label target (shape_of p.source)
    ++ (escaped target (named_text p) ++ after_label target (shape_of p.source))))

-- the line of a node, if there is a package
abbrev pub line_if : Target → ℕ → Option PackageData → List ℕ
line_if target node None = []
line_if target node (Some p) = package_node_line target node p

-- the line of a node of some packages
abbrev pub node_line : Target → List PackageData → ℕ → List ℕ
node_line target packages node = line_if target node (slice_get packages node)

-- what is between the ends of an edge
abbrev pub arrow_sign : Target → List ℕ
arrow_sign Dot = codes " -> n"
arrow_sign Mermaid = codes " --> n"

-- the line of an edge
abbrev pub arrow_line : Target → Arrow → List ℕ
arrow_line target arrow = codes "  n" ++ (decimal arrow.from
    ++ (arrow_sign target ++ (decimal arrow.to ++ codes "\n")))

-- the first line
abbrev pub first_line : Target → List ℕ
first_line Dot = codes "digraph {\n"
first_line Mermaid = codes "flowchart TD\n"

-- the last line, which Mermaid does not have
abbrev pub closing_line : Target → List ℕ
closing_line Dot = codes "}\n"
closing_line Mermaid = []

-- the text of a picture: the first line, a line for each node and for each arrow, and the last line
abbrev pub diagram_text : Target → List PackageData → List ℕ → List Arrow → List ℕ
diagram_text target packages nodes arrows = first_line target
    ++ (flat_map (node_line target packages) nodes
    ++ (flat_map (arrow_line target) arrows ++ closing_line target))
