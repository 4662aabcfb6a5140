mod ZeroRows
