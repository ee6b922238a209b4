mod PairGroups
mod ListedPairs
mod TestedCells
