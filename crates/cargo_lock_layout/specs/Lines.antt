-- The lines that Cargo writes for a lockfile.
-- The rule is measured on the lockfiles in `tests/cargo`, which Cargo 1.95.0 wrote; Cargo's own is
-- in its `src/cargo/ops/lockfile.rs`.
use Rattle.std.specs.Prelude.{◌&&◌, ◌++◌, ◌-◌, ◌==◌, ℕ, Bool, not, if◌then◌else◌, List, [], bytes_eq}
use Rattle.std.specs.Prelude.{drop, filter, length, slice_index_or, take}
use Rattle.std.specs.List.{dedup, take_while}
use Rattle.std.specs.Str.Lines.{lines}
use Rattle.cargo_lock_lines.specs.Layout.{comment_lines, join_lines}

-- the line at a place, or an empty one after the last
abbrev pub line_or_empty : List (List ℕ) → ℕ → List ℕ
line_or_empty lines k = slice_index_or lines k []

-- the line is empty
abbrev pub is_empty : List ℕ → Bool
is_empty line = length line == 0

-- the line begins with `#`
abbrev pub is_comment : List ℕ → Bool
is_comment line = slice_index_or line 0 0 == 35

-- both lines are empty
abbrev pub are_empty : List ℕ → List ℕ → Bool
are_empty a b = is_empty a && is_empty b

-- the lines but each that is this one
abbrev pub others_than : List ℕ → List (List ℕ) → List (List ℕ)
others_than own = filter (λ line. not (bytes_eq line own))

-- the comments at the top of a text
abbrev pub top_comments : List (List ℕ) → List (List ℕ)
top_comments = take_while is_comment

-- of these, Cargo keeps all but its own two, each in its own line
abbrev pub kept_of : List (List ℕ) → List (List ℕ)
kept_of top = others_than (line_or_empty comment_lines 0) (take 1 top)
    ++ (others_than (line_or_empty comment_lines 1) (take 1 (drop 1 top)) ++ drop 2 top)

-- the comments that Cargo keeps of a text with these lines
abbrev pub kept_comments : List (List ℕ) → List (List ℕ)
kept_comments written = kept_of (top_comments written)

-- the same of a text, each with its newline
abbrev pub comments_of : List ℕ → List ℕ
comments_of text = join_lines (kept_comments (lines text))

-- the format has no number in the file: this library then prints an empty line after the comments
abbrev pub is_unnumbered : List (List ℕ) → Bool
is_unnumbered printed = is_empty (line_or_empty printed 2)

-- the two comments, which may be missing if there is no number, as Cargo did not always write them
abbrev pub header : List (List ℕ) → List (List ℕ) → List (List ℕ)
header written printed =
    if is_unnumbered printed && not (is_comment (line_or_empty written 0)) then [] else take 2 printed

-- the place at which the lines after the two comments begin: Cargo prints no empty line there
abbrev pub body_place : List (List ℕ) → ℕ
body_place printed = if is_unnumbered printed then 3 else 2

-- The lines that Cargo writes in place of `written`, for a lockfile that this library prints as the
-- lines `printed`: Cargo's two comments, the comments that it keeps, and the rest. Between two
-- unused patches Cargo leaves one line empty, where this library leaves two.
abbrev pub cargo_lines : List (List ℕ) → List (List ℕ) → List (List ℕ)
cargo_lines written printed = dedup are_empty
    (header written printed ++ (kept_comments written ++ drop (body_place printed) printed))

-- the lines without an empty one at the end
abbrev pub without_empty_end : List (List ℕ) → List (List ℕ)
without_empty_end lines =
    if is_empty (line_or_empty lines (length lines - 1)) then take (length lines - 1) lines else lines

-- the text that Cargo writes below its own comments and these, where this library prints `printed`,
-- from V2 on, and in V1 with metadata
abbrev pub cargo_text : List ℕ → List ℕ → List ℕ
cargo_text comments printed = join_lines (without_empty_end
    (cargo_lines (comment_lines ++ lines comments) (lines printed)))
