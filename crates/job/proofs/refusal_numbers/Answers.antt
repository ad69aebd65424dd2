use Rattle.job.proofs.refusal_numbers.Goals as goal

pub returns-in-BadLength : goal.returns-in-BadLength
returns-in-BadLength c = rw c.in-BadLength.is

pub returns-in-BadVersion : goal.returns-in-BadVersion
returns-in-BadVersion c = rw c.in-BadVersion.is

pub returns-in-BadCounts : goal.returns-in-BadCounts
returns-in-BadCounts c = rw c.in-BadCounts.is

pub returns-in-BadSize : goal.returns-in-BadSize
returns-in-BadSize c = rw c.in-BadSize.is

pub returns-in-BadVisibility : goal.returns-in-BadVisibility
returns-in-BadVisibility c = rw c.in-BadVisibility.is

pub returns-in-BadKind : goal.returns-in-BadKind
returns-in-BadKind c = rw c.in-BadKind.is

pub returns-in-BadAtom : goal.returns-in-BadAtom
returns-in-BadAtom c = rw c.in-BadAtom.is

pub returns-in-BadCoordinate : goal.returns-in-BadCoordinate
returns-in-BadCoordinate c = rw c.in-BadCoordinate.is

pub returns-in-NoScratch : goal.returns-in-NoScratch
returns-in-NoScratch c = rw c.in-NoScratch.is

pub returns-in-TooManyVertices : goal.returns-in-TooManyVertices
returns-in-TooManyVertices c = rw c.in-TooManyVertices.is

pub returns-in-NoRoom : goal.returns-in-NoRoom
returns-in-NoRoom c = rw c.in-NoRoom.is

pub returns-in-ShortLine : goal.returns-in-ShortLine
returns-in-ShortLine c = rw c.in-ShortLine.is

pub returns-in-BadNumber : goal.returns-in-BadNumber
returns-in-BadNumber c = rw c.in-BadNumber.is

pub returns-in-AbsentResidue : goal.returns-in-AbsentResidue
returns-in-AbsentResidue c = rw c.in-AbsentResidue.is

pub returns-in-PastLimits : goal.returns-in-PastLimits
returns-in-PastLimits c = rw c.in-PastLimits.is

pub returns-in-NoJobRoom : goal.returns-in-NoJobRoom
returns-in-NoJobRoom c = rw c.in-NoJobRoom.is

pub returns-in-Inconsistent : goal.returns-in-Inconsistent
returns-in-Inconsistent c = rw c.in-Inconsistent.is

pub returns-in-NoStlRoom : goal.returns-in-NoStlRoom
returns-in-NoStlRoom c = rw c.in-NoStlRoom.is

pub returns-in-NotStl : goal.returns-in-NotStl
returns-in-NotStl c = rw c.in-NotStl.is

pub returns-in-BadShares : goal.returns-in-BadShares
returns-in-BadShares c = rw c.in-BadShares.is
