-- The lines of diagnostics.
use Rattle.std.specs.Prelude.{ℕ, List, [], ◌∷◌, ◌++◌, codes, get_or}
use Rattle.std.specs.Fmt.{decimal}
use Rattle.site_base.specs.declared.diag.Diag.{Diag}
use Rattle.site_base.specs.declared.diag_kind.DiagKind.{DiagKind}
use Rattle.site_base.specs.declared.diag_kind.DiagKind.TheVariants as kind

abbrev pub kind_text : DiagKind → List ℕ
kind_text kind.NoFile = codes "NoFile"
kind_text kind.FileTooLong = codes "FileTooLong"
kind_text kind.IncludeDepth = codes "IncludeDepth"
kind_text kind.TooManyFiles = codes "TooManyFiles"
kind_text kind.Lexical = codes "Lexical"
kind_text kind.Syntax = codes "Syntax"
kind_text kind.TooDeep = codes "TooDeep"
kind_text kind.WrongType = codes "WrongType"
kind_text kind.Overflow = codes "Overflow"
kind_text kind.DivZero = codes "DivZero"
kind_text kind.Arity = codes "Arity"
kind_text kind.FrozenWrite = codes "FrozenWrite"
kind_text kind.ConstSet = codes "ConstSet"
kind_text kind.NotHere = codes "NotHere"
kind_text kind.NoAssign = codes "NoAssign"
kind_text kind.StepLimit = codes "StepLimit"
kind_text kind.SpaceLimit = codes "SpaceLimit"
kind_text kind.DepthLimit = codes "DepthLimit"
kind_text kind.Undefined = codes "Undefined"
kind_text kind.NoTemplate = codes "NoTemplate"
kind_text kind.BadTarget = codes "BadTarget"
kind_text kind.UnknownType = codes "UnknownType"
kind_text kind.BadName = codes "BadName"
kind_text kind.Thrown = codes "Thrown"
kind_text kind.Cyclic = codes "Cyclic"
kind_text kind.FunctionValue = codes "FunctionValue"
kind_text kind.UnknownAttr = codes "UnknownAttr"
kind_text kind.AttrType = codes "AttrType"
kind_text kind.MissingAttr = codes "MissingAttr"
kind_text kind.BadRange = codes "BadRange"
kind_text kind.ItemLimit = codes "ItemLimit"
kind_text kind.Duplicate = codes "Duplicate"
kind_text kind.NoReference = codes "NoReference"
kind_text kind.DependencyCycle = codes "DependencyCycle"
kind_text kind.BadConst = codes "BadConst"
kind_text kind.BadZone = codes "BadZone"
kind_text kind.BadScript = codes "BadScript"
kind_text kind.BadQuery = codes "BadQuery"
kind_text kind.BadState = codes "BadState"

-- a blank and the detail, if there is one
abbrev pub detail_text : List ℕ → List ℕ
detail_text [] = []
detail_text (b ∷ bs) = 32 ∷ b ∷ bs

-- FILE:LINE:COL: KIND and the detail, with a newline
abbrev pub diag_text : List ℕ → ℕ → ℕ → List ℕ → List ℕ → List ℕ
diag_text file line col kind detail =
    file ++ 58 ∷ (decimal line ++ 58 ∷ (decimal col ++ 58 ∷ 32 ∷ (kind ++ detail_text detail ++ 10 ∷ [])))

-- the line of a diagnostic, in the file of its place
abbrev pub diag_line : List (List ℕ) → Diag → List ℕ
diag_line files d = diag_text (get_or files d.place.file []) d.place.line d.place.col (kind_text d.kind) d.text
