mod Numbers
mod Trees
